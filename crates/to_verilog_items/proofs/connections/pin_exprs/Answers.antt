use Rattle.std.proofs.Common.{option_to_list}
use Rattle.net_hier.specs.declared.nodes.Node.TheVariants.{Pin}
use Rattle.to_verilog_items.specs.Instances.{pin_expr}
use Rattle.to_verilog_items.proofs.Loops.{flat_turn}
use Rattle.to_verilog_items.proofs.connections.pin_exprs.Goals as goal

pub loop-bit-preserved : goal.loop-bit-preserved
loop-bit-preserved c =
    flat_turn (λ bit. option_to_list (pin_expr c.args.ports.now c.args.wiring.now (Pin c.args.instance c.args.port bit))) c.loop-bit.bit c.loop-bit.exprs c.push_pin.new.exprs
    c.loop-bit.invariant c.in_ok-push_pin.ensures
