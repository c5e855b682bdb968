use Rattle.std.proofs.Common.{ℕ, ◌<◌, ◌≤◌}
use Rattle.std.specs.Prelude.{count_by}
use Rattle.net_bits.specs.Classes.{members_of}
use Rattle.net_bits.specs.Leaves.{is_outer}
use Rattle.net_bits.proofs.leaf.are_apart.Given as goal

abbrev pub invariant-loop-class : goal.invariant-loop-class
invariant-loop-class l = (k : ℕ) → k < l.class → count_by is_outer (members_of l.classes k) ≤ 1
