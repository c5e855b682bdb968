use Rattle.std.proofs.Common.{◌≡◌, Some, map}
use Rattle.to_edif.proofs.cells.kept_of.Given as goal

abbrev pub invariant-loop-classes : goal.invariant-loop-classes
invariant-loop-classes l = l.kept.items ≡ map Some l.yielded
