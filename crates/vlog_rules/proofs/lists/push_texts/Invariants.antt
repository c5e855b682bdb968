use Rattle.std.proofs.Common.{◌≡◌, ◌++◌, drop}
use Rattle.vlog_design.specs.Tables.{names_of}
use Rattle.vlog_rules.proofs.lists.push_texts.Given as goal

abbrev pub invariant-loop-name : goal.invariant-loop-name
invariant-loop-name l = names_of l.out.items ++ (drop l.name-index l.names) ≡ names_of l.initial.out.items ++ l.names
