use Rattle.to_verilog_classes.specs.Roots.{of_live}
use Rattle.vlog_written.specs.Written.{assign_item}
use Rattle.to_verilog_items.specs.Assigns.{assigns_among}
use Rattle.to_verilog_items.proofs.Loops.{items_turn}
use Rattle.to_verilog_items.proofs.assigns.push_assigns.Goals as goal

pub loop-class-preserved : goal.loop-class-preserved
loop-class-preserved c =
    items_turn assign_item (of_live c.args.wiring.now.groups (assigns_among c.args.ports.now c.args.wiring.now)) c.loop-class.class c.args.items.now c.loop-class.items c.push_class.new.items
    c.loop-class.invariant c.in_ok-push_class.ensures
