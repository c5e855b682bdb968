use Rattle.std.proofs.Common.{arith, refl}
use Rattle.edif_rules.specs.Idents.{instance_ident}
use Rattle.edif_rules.proofs.TableTurns.{entries_turn}
use Rattle.edif_rules.proofs.tables.instance_entries.Goals as goal

pub loop-number-preserved : goal.loop-number-preserved
loop-number-preserved c =
    entries_turn c.args.instances.now c.loop-number.number c.index-instances-number.result (omega arith) c.index-instances-number.is instance_ident c.loop-number.made.items c.push.new.self.items (c.loop-number.number, c.bytes.result) c.loop-number.invariant refl c.bytes.ensures.bytes c.in_ok-push.ensures.items
