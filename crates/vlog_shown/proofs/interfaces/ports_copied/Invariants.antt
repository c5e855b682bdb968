use Rattle.std.proofs.Common.{◌≡◌, ◌++◌, drop, map}
use Rattle.vlog_shown.specs.Interfaces.{bare_port}
use Rattle.vlog_shown.proofs.interfaces.ports_copied.Given as goal

abbrev pub invariant-loop-decl : goal.invariant-loop-decl
invariant-loop-decl l = l.made.items ++ map bare_port (drop l.decl-index l.decls) ≡ map bare_port l.decls
