use Rattle.std.proofs.Common.{◌≡◌, ◌-◌, ◌^◌, min, sum_by, take}
use Rattle.net_hier.specs.Units.{cell_units}
use Rattle.net_hier.proofs.units.units_of.Given as goal

abbrev pub invariant-loop-cell : goal.invariant-loop-cell
invariant-loop-cell l = l.sum ≡ min (2 ^ 64 - 1) (sum_by cell_units (take l.cell-index l.cells))
