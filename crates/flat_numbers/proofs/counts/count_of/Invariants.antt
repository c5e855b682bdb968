use Rattle.std.proofs.Common.{◌+◌, take}
use Rattle.flat_numbers.specs.FlatCounts.{IsCountBelow}
use Rattle.flat_numbers.proofs.counts.count_of.Given as goal

abbrev pub invariant-loop-instance : goal.invariant-loop-instance
invariant-loop-instance l = IsCountBelow l.fn.cells (take l.instance-index l.instance-items) (1 + l.own) l.count
