use Rattle.to_spice.proofs.Making.{cell_made, none_next, own_nodes}
use Rattle.to_spice.proofs.subckts.calls_of_cell.Goals as goal

pub calls_of-requires-clause-own : goal.calls_of-requires-clause-own
calls_of-requires-clause-own c = own_nodes c.args.hier.now.cells c.args.cell.now c.in_ok-classes.classes c.in_ok-classes.ensures c.requires.joins

pub calls_of-requires-clause-next : goal.calls_of-requires-clause-next
calls_of-requires-clause-next c = none_next c.args.cell.now c.in_ok-nodes.nodes c.in_ok-nodes.ensures

pub returns : goal.returns
returns c = cell_made c.args.hier.now.cells c.args.cell.now c.in_ok-classes.classes c.in_ok-nodes.nodes c.calls_of.new.nodes c.in_ok-calls.calls c.in_ok-nodes.ensures c.in_ok-calls.ensures
