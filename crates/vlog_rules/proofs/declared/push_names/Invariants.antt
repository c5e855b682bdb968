use Rattle.std.proofs.Common.{◌≡◌, ◌++◌, drop}
use Rattle.vlog_design.specs.Names.{declared_as}
use Rattle.vlog_rules.specs.Seen.{declarations_of}
use Rattle.vlog_rules.proofs.declared.push_names.Given as goal

abbrev pub invariant-loop-name : goal.invariant-loop-name
invariant-loop-name l = declarations_of l.out.items ++ declared_as l.kind (drop l.name-index l.names) ≡ declarations_of l.initial.out.items ++ declared_as l.kind l.names
