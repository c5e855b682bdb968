use Rattle.to_verilog_classes.proofs.GroupLaws.{groups_made, marks_made}
use Rattle.to_verilog_classes.proofs.groups.Groups.of_cell.Goals as goal

pub invariant_of-result : goal.invariant_of-result
invariant_of-result c = marks_made c.args.cell.now c.in_ok-classes.classes c.in_ok-live.live.items c.in_ok-classes.ensures c.in_ok-live.ensures

pub returns : goal.returns
returns c = groups_made c.args.cell.now c.in_ok-classes.classes c.in_ok-live.live.items c.in_ok-classes.ensures c.in_ok-live.ensures
