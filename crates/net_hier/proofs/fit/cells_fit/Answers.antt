use Rattle.std.proofs.Common.{sym, subst, arith}
use Rattle.net_hier.specs.Valid.{CellsFit}
use Rattle.net_hier.proofs.Building.{fit_of, good_in_range}
use Rattle.net_hier.proofs.fit.cells_fit.Goals as goal

pub all_reached-requires-clause-in_range : goal.all_reached-requires-clause-in_range
all_reached-requires-clause-in_range c = good_in_range c.items-cells.result.now (λ number cell e. (c.in_ok-each_cell_fits.ensures.0 c.if-not-branch.false number cell e).1)

pub returns : goal.returns
returns c = (
  (λ found. subst (λ cells. CellsFit cells c.args.top) c.items-cells.ensures
      (fit_of c.items-cells.result.now c.args.top (omega (arith, c.if-cells-gt-COUNT_LIMIT.false)) (omega (arith, c.if-top-cells.false)) (c.in_ok-each_cell_fits.ensures.0 c.if-not-branch.false) (c.in_ok-reached.ensures.0 found))),
  (λ fit. c.in_ok-reached.ensures.1 (subst (λ cells. CellsFit cells c.args.top) (sym c.items-cells.ensures) fit).reached),
)
