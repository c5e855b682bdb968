use Rattle.std.proofs.Common.{◌≡◌, map}
use Rattle.std.specs.List.{range_with_len}
use Rattle.net_flatten_rules.specs.FlatDesign.{numbered_net}
use Rattle.net_flatten_cells.proofs.nets.nets_of.Given as goal

abbrev pub invariant-loop-number : goal.invariant-loop-number
invariant-loop-number l = l.nets ≡ map numbered_net (range_with_len 0 l.number)
