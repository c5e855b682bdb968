use Rattle.std.proofs.Common.{◌≡◌, drop, find, not}
use Rattle.vlog_design.specs.Names.{has_name}
use Rattle.vlog_design.specs.Tables.{names_of}
use Rattle.vlog_rules.proofs.lists.first_not_in.Given as goal

abbrev pub invariant-loop-name : goal.invariant-loop-name
invariant-loop-name l = find (λ name. not (has_name l.set name)) (names_of (drop l.name-index l.names)) ≡ find (λ name. not (has_name l.set name)) (names_of l.names)
