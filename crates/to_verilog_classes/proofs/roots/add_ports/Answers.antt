use Rattle.std.proofs.Common.{arith, option_to_list}
use Rattle.net_hier.specs.declared.nodes.Node.{Node}
use Rattle.net_hier.specs.declared.nodes.Node.TheVariants.{Port}
use Rattle.to_verilog_classes.specs.Roots.{wide_port}
use Rattle.to_verilog_classes.proofs.KeyLaws.{keys_all, keys_none, keys_turn}
use Rattle.to_verilog_classes.proofs.roots.add_ports.Goals as goal

pub loop-node-init : goal.loop-node-init
loop-node-init c = keys_none c.args.ports.now.keys

pub loop-node-preserved : goal.loop-node-preserved
loop-node-preserved c = keys_turn (λ (node : Node). option_to_list (wide_port c.args.hier.now.cells c.args.cell.now node)) c.args.nodes.now c.loop-node.node-index (Port 0 0) (omega arith) _ _ _ c.loop-node.invariant c.in_ok-add_port.ensures

pub returns : goal.returns
returns c = keys_all (λ (node : Node). option_to_list (wide_port c.args.hier.now.cells c.args.cell.now node)) c.args.nodes.now c.loop-node.node-index (omega arith) _ _ c.loop-node.invariant
