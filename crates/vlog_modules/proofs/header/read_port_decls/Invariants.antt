use Rattle.readers.specs.Readers.{room}
use Rattle.readers.proofs.Loops.{Collects}
use Rattle.std.specs.Prelude.{◌-◌}
use Rattle.vlog_modules.specs.States.{ArePorts, ports_size}
use Rattle.vlog_tokens.specs.Language.{vlog}
use Rattle.vlog_modules.specs.Grammar.{port_decls}
use Rattle.vlog_modules.proofs.header.read_port_decls.Given as goal

abbrev pub invariant-loop-decls : goal.invariant-loop-decls
invariant-loop-decls g l = Collects vlog (port_decls l.fn.first) (port_decls l.decls) (ArePorts l.decls) (ports_size l.decls - ports_size l.fn.first) l.cursor l.fn.cursor (g.S.Source.supply l.source) (g.S.Source.supply l.fn.source)

abbrev pub decreases-loop-decls : goal.decreases-loop-decls
decreases-loop-decls g l = room l.cursor
