use Rattle.std.proofs.Common.{◌≡◌, [], bytes_eq, drop}
use Rattle.vlog_design.specs.Names.{clashing}
use Rattle.vlog_design.specs.Rules.{first_of}
use Rattle.vlog_design.specs.Tables.{names_of}
use Rattle.vlog_rules.proofs.repeats.first_in_set.Given as goal

abbrev pub invariant-loop-name : goal.invariant-loop-name
invariant-loop-name l = first_of (clashing bytes_eq l.seen (names_of (drop l.name-index l.names))) ≡ first_of (clashing bytes_eq [] (names_of l.names))
