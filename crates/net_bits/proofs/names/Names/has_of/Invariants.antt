use Rattle.net_bits.proofs.NameLaws.{IsSeeking, after}
use Rattle.net_bits.proofs.names.Names.has_of.Given as goal

abbrev pub invariant-loop-place : goal.invariant-loop-place
invariant-loop-place l = IsSeeking l.self l.name l.place

abbrev pub decreases-loop-place : goal.decreases-loop-place
decreases-loop-place l = after l.place
