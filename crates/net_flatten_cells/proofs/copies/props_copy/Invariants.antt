use Rattle.std.proofs.Common.{◌≡◌, take}
use Rattle.net_flatten_cells.proofs.copies.props_copy.Given as goal

abbrev pub invariant-loop-prop : goal.invariant-loop-prop
invariant-loop-prop l = l.copies ≡ take l.prop-index l.props
