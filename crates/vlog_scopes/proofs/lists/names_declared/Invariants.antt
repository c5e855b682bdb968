use Rattle.std.proofs.Common.{◌≡◌, ◌++◌, drop}
use Rattle.vlog_design.specs.Tables.{names_of}
use Rattle.vlog_rules.specs.Seen.{declarations_of}
use Rattle.vlog_scopes.specs.Implicit.{declared_names}
use Rattle.vlog_scopes.proofs.lists.names_declared.Given as goal

abbrev pub invariant-loop-declaration : goal.invariant-loop-declaration
invariant-loop-declaration l = names_of l.names.items ++ declared_names (declarations_of (drop l.declaration-index l.declarations)) ≡ declared_names (declarations_of l.declarations)
