use Rattle.std.proofs.Common.{◌∙◌}
use Rattle.to_spice_rules.proofs.Sizes.{cell_there, few_ports}
use Rattle.to_spice.proofs.Bits.{pins_are}
use Rattle.to_spice.proofs.Making.{call_made}
use Rattle.to_spice.proofs.subckts.call_of.Goals as goal

pub pins_of-requires : goal.pins_of-requires
pins_of-requires c = few_ports c.args.hier.now c.cells.ensures.valid c.args.instance.now.cell c.index-cells-instance.result
    (cell_there c.args.hier.now.cells c.cells.result.now c.args.instance.now.cell c.index-cells-instance.result c.cells.ensures.cells c.requires.there c.index-cells-instance.is)

pub name_pins-requires-clause-pins : goal.name_pins-requires-clause-pins
name_pins-requires-clause-pins c = pins_are c.args.number c.index-cells-instance.result c.as_slice.result.now (c.as_slice.ensures.value ∙ c.in_ok-pins.ensures)

pub returns-clause-call : goal.returns-clause-call
returns-clause-call c =
    call_made c.args.hier.now.cells c.args.cell.now c.index-cells-instance.result c.args.classes.now c.args.number c.args.instance.now c.args.nodes.now c.name_pins.new.self c.as_slice.result.now
    (record { name = c.in_ok-name.name; nodes = c.in_ok-names.names; cell = c.in_ok-of.of })
    (cell_there c.args.hier.now.cells c.cells.result.now c.args.instance.now.cell c.index-cells-instance.result c.cells.ensures.cells c.requires.there c.index-cells-instance.is)
    (c.in_ok-name.ensures ∙ c.bytes.ensures) (c.in_ok-of.ensures ∙ c.bytes-2.ensures) (c.as_slice.ensures.value ∙ c.in_ok-pins.ensures) c.in_ok-names.ensures.nodes
