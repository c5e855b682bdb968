use Rattle.std.proofs.Common.{◌≡◌, [], bytes_eq, drop, take}
use Rattle.vlog_design.specs.Names.{clashing}
use Rattle.vlog_design.specs.Rules.{first_of}
use Rattle.vlog_design.specs.Tables.{names_of}
use Rattle.vlog_rules.proofs.repeats.first_among.Given as goal

abbrev pub invariant-loop-place : goal.invariant-loop-place
invariant-loop-place l = first_of (clashing bytes_eq (names_of (take l.place l.names)) (names_of (drop l.place l.names))) ≡ first_of (clashing bytes_eq [] (names_of l.names))
