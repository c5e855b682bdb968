use Rattle.std.proofs.Common.{◌≡◌, ◌++◌, drop}
use Rattle.vlog_design.specs.Tables.{names_of}
use Rattle.vlog_design.specs.Uses.{uses_of}
use Rattle.vlog_scopes.specs.Implicit.{undeclared}
use Rattle.vlog_scopes.proofs.implicit.undeclared_in.Given as goal

abbrev pub invariant-loop-u : goal.invariant-loop-u
invariant-loop-u l = names_of l.names.items ++ undeclared l.declared (uses_of (drop l.u-index l.uses)) ≡ undeclared l.declared (uses_of l.uses)
