use Rattle.std.proofs.Common.{◌≡◌, [], bytes_eq, drop, map, take}
use Rattle.vlog_design.specs.Names.{clashing}
use Rattle.vlog_design.specs.Rules.{first_of}
use Rattle.vlog_rules.proofs.repeats.first_named_again.Given as goal

abbrev pub invariant-loop-place : goal.invariant-loop-place
invariant-loop-place l = first_of (clashing bytes_eq (map (λ conn. conn.port) (take l.place l.conns)) (map (λ conn. conn.port) (drop l.place l.conns))) ≡ first_of (clashing bytes_eq [] (map (λ conn. conn.port) l.conns))
