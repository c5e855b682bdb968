use Rattle.std.proofs.Common.{arith, refl}
use Rattle.edif_design.specs.CellRules.{port_ident}
use Rattle.edif_rules.proofs.TableTurns.{entries_turn}
use Rattle.edif_rules.proofs.tables.port_entries.Goals as goal

pub loop-number-preserved : goal.loop-number-preserved
loop-number-preserved c =
    entries_turn c.args.ports.now c.loop-number.number c.index-ports-number.result (omega arith) c.index-ports-number.is port_ident c.loop-number.made.items c.push.new.self.items (c.loop-number.number, c.port_ident.result) c.loop-number.invariant refl c.port_ident.ensures c.in_ok-push.ensures.items
