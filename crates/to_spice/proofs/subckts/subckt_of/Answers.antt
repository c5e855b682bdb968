use Rattle.std.proofs.Common.{◌∙◌}
use Rattle.to_spice_rules.proofs.Sizes.{cell_there, few_joins}
use Rattle.to_spice.proofs.Making.{subckt_made}
use Rattle.to_spice.proofs.subckts.subckt_of.Goals as goal

pub calls_of_cell-requires-clause-joins : goal.calls_of_cell-requires-clause-joins
calls_of_cell-requires-clause-joins c =
    (c.cells.ensures.valid.valid.good_cells c.args.number c.index-cells-number.result
    (cell_there c.args.hier.now.cells c.cells.result.now c.args.number c.index-cells-number.result c.cells.ensures.cells c.requires c.index-cells-number.is)).joins_in_range

pub calls_of_cell-requires-clause-few_joins : goal.calls_of_cell-requires-clause-few_joins
calls_of_cell-requires-clause-few_joins c = few_joins c.args.hier.now c.cells.ensures.valid c.args.number c.index-cells-number.result
    (cell_there c.args.hier.now.cells c.cells.result.now c.args.number c.index-cells-number.result c.cells.ensures.cells c.requires c.index-cells-number.is)

pub calls_of_cell-requires-clause-there : goal.calls_of_cell-requires-clause-there
calls_of_cell-requires-clause-there c =
    (c.cells.ensures.valid.valid.good_cells c.args.number c.index-cells-number.result
    (cell_there c.args.hier.now.cells c.cells.result.now c.args.number c.index-cells-number.result c.cells.ensures.cells c.requires c.index-cells-number.is)).instances_in_range

pub calls_of_cell-requires-clause-few : goal.calls_of_cell-requires-clause-few
calls_of_cell-requires-clause-few c = c.cells.ensures.valid.few_parts.few_instances c.args.number c.index-cells-number.result
    (cell_there c.args.hier.now.cells c.cells.result.now c.args.number c.index-cells-number.result c.cells.ensures.cells c.requires c.index-cells-number.is)

pub returns : goal.returns
returns c = subckt_made c.args.hier.now c.args.number c.index-cells-number.result _
    (cell_there c.args.hier.now.cells c.cells.result.now c.args.number c.index-cells-number.result c.cells.ensures.cells c.requires c.index-cells-number.is)
    (c.in_ok-name.ensures ∙ c.bytes.ensures) c.in_ok-ports.ensures c.in_ok-calls.ensures
