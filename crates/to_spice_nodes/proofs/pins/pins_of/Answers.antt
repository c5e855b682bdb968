use Rattle.std.proofs.Common.{◌++◌, ◌∙◌, ap}
use Rattle.net_hier.specs.declared.cells.HPort.{HPort}
use Rattle.to_spice_nodes.specs.Nodes.{port_pins}
use Rattle.to_spice_nodes.proofs.Loops.{ports_turn}
use Rattle.to_spice_nodes.proofs.pins.pins_of.Goals as goal

pub loop-number-preserved : goal.loop-number-preserved
loop-number-preserved c =
    ports_turn (port_pins c.args.instance) c.items-ports.result.now c.loop-number.number c.index-ports-number.result c.loop-number.pins.items c.push_pins.new.pins.items c.loop-number-test.true c.loop-number.invariant
    (c.in_ok-push_pins.ensures ∙ ap (λ (port : HPort). c.loop-number.pins.items ++ port_pins c.args.instance (c.loop-number.number, port)) c.index-ports-number.is)
