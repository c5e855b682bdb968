use Rattle.std.proofs.Common.{◌≡◌, ◌+◌, ◌-◌, bytes_eq, drop, length}
use Rattle.std.specs.List.{position_or_len}
use Rattle.vlog_design.specs.Tables.{names_of}
use Rattle.vlog_design.proofs.names.place_among.Given as goal

abbrev pub invariant-loop-place : goal.invariant-loop-place
invariant-loop-place l = l.place + position_or_len (bytes_eq l.name) (names_of (drop l.place l.names)) ≡ position_or_len (bytes_eq l.name) (names_of l.names)

abbrev pub decreases-loop-place : goal.decreases-loop-place
decreases-loop-place l = length l.names - l.place
