use Rattle.std.proofs.Common.{◌≤◌, length, refl}
use Rattle.net_hier.specs.Valid.{IsGoodCell, count_limit}
use Rattle.net_hier.proofs.Fitting.{holds_all, holds_more}
use Rattle.net_hier.proofs.fit.each_cell_fits.Goals as goal

pub loop-cell-preserved : goal.loop-cell-preserved
loop-cell-preserved c =
    holds_more (λ cell. (length cell.instances ≤ count_limit) × IsGoodCell c.args.cells.now cell) c.args.cells.now c.loop-cell.cell-index c.cell-item.result c.loop-cell.invariant c.loop-cell-test.true c.cell-item.is
    (c.in_ok-cell_fits.ensures.0 c.if-not-branch.false)

pub returns : goal.returns
returns c = (
  (λ h. holds_all (λ cell. (length cell.instances ≤ count_limit) × IsGoodCell c.args.cells.now cell) c.args.cells.now c.loop-cell.cell-index c.loop-cell.invariant c.loop-cell-test.false),
  (λ each. refl),
)
