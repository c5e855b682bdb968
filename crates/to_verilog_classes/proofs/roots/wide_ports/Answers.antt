use Rattle.to_verilog_classes.specs.Roots.{of_live, wide_among}
use Rattle.to_verilog_classes.proofs.KeyLaws.{keys_of_class}
use Rattle.to_verilog_classes.proofs.roots.wide_ports.Goals as goal

pub loop-class-preserved : goal.loop-class-preserved
loop-class-preserved c = keys_of_class (of_live c.args.groups.now (wide_among c.args.hier.now.cells c.args.cell.now)) c.loop-class.class _ _ c.loop-class.invariant c.in_ok-add_class.ensures
