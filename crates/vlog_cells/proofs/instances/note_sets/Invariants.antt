use Rattle.std.proofs.Common.{◌≡◌, ◌++◌, drop, ℕ, List}
use Rattle.vlog_cells.specs.Instances.{sets_for, sets_under}
use Rattle.vlog_cells.proofs.instances.note_sets.Given as goal

abbrev pub invariant-loop-set : goal.invariant-loop-set
invariant-loop-set l = (key : List ℕ) → sets_under l.found key ++ sets_for key (drop l.set-index l.sets) ≡ sets_under l.initial.found key ++ sets_for key l.sets
