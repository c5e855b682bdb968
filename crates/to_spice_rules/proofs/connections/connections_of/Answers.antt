use Rattle.to_spice_rules.proofs.Sizes.{cell_there, few_ports, own_port}
use Rattle.to_spice_rules.proofs.Walk.{cell_found}
use Rattle.to_spice_rules.proofs.connections.connections_of.Goals as goal

pub joined_ports-requires-clause-own : goal.joined_ports-requires-clause-own
joined_ports-requires-clause-own c =
    let is_cell = cell_there c.args.hier.now.cells c.cells.result.now c.args.number c.index-cells-number.result c.cells.ensures.cells c.requires c.index-cells-number.is in
    own_port c.args.hier.now c.cells.ensures.valid c.args.number c.index-cells-number.result is_cell c.in_ok-classes.classes c.in_ok-classes.ensures

pub joined_ports-requires-clause-few : goal.joined_ports-requires-clause-few
joined_ports-requires-clause-few c =
    few_ports c.args.hier.now c.cells.ensures.valid c.args.number c.index-cells-number.result
    (cell_there c.args.hier.now.cells c.cells.result.now c.args.number c.index-cells-number.result c.cells.ensures.cells c.requires c.index-cells-number.is)

pub returns : goal.returns
returns c =
    let is_cell = cell_there c.args.hier.now.cells c.cells.result.now c.args.number c.index-cells-number.result c.cells.ensures.cells c.requires c.index-cells-number.is in
    cell_found c.args.hier.now.cells c.args.number c.index-cells-number.result c.in_ok-classes.classes is_cell c.in_ok-classes.ensures
    (c.cells.ensures.valid.valid.good_cells c.args.number c.index-cells-number.result is_cell).joins_in_range c.in_ok-ports.ports c.is_tied-is_tied.result c.in_ok-ports.ensures c.is_tied-is_tied.ensures
