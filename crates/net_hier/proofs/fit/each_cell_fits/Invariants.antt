use Rattle.std.proofs.Common.{◌≤◌, length}
use Rattle.net_hier.specs.Valid.{IsGoodCell, count_limit}
use Rattle.net_hier.proofs.Fitting.{HoldsBefore}
use Rattle.net_hier.proofs.fit.each_cell_fits.Given as goal

abbrev pub invariant-loop-cell : goal.invariant-loop-cell
invariant-loop-cell l = HoldsBefore (λ cell. (length cell.instances ≤ count_limit) × IsGoodCell l.cells cell) l.cells l.cell-index
