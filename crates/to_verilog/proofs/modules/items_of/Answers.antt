use Rattle.std.proofs.Common.{sym, subst, length, ◌<◌, ◌≤◌, ◌^◌}
use Rattle.to_verilog_items.specs.Instances.{below_ports}
use Rattle.to_verilog.proofs.Fits.{few_below, few_joins, made_items}
use Rattle.to_verilog.proofs.modules.items_of.Goals as goal

pub of_cell-requires-clause-few : goal.of_cell-requires-clause-few
of_cell-requires-clause-few c = few_joins c.args.hier.now c.cells-cells.ensures.valid c.args.number c.args.cell.now c.requires

pub items_over-requires-clause-cells : goal.items_over-requires-clause-cells
items_over-requires-clause-cells c = λ place item e.
    subst (λ l. item.cell < length l) (sym c.cells-cells.ensures.cells)
    ((c.cells-cells.ensures.valid.valid.good_cells c.args.number c.args.cell.now c.requires).instances_in_range place item e)

pub items_over-requires-clause-ports : goal.items_over-requires-clause-ports
items_over-requires-clause-ports c = λ place item e.
    subst (λ l. length (below_ports l item) ≤ 2 ^ 32) (sym c.cells-cells.ensures.cells)
    (few_below c.args.hier.now c.cells-cells.ensures.valid c.args.number c.args.cell.now c.requires item
    ((c.cells-cells.ensures.valid.valid.good_cells c.args.number c.args.cell.now c.requires).instances_in_range place item e))

pub returns : goal.returns
returns c =
    made_items c.args.hier.now c.args.params.now c.args.number c.args.cell.now _ _ _
    c.in_ok-wiring.ensures c.cells-cells.ensures.cells _ c.items_over.ensures
