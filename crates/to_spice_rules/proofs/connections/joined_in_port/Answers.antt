use Rattle.std.proofs.Common.{◌∙◌, sym}
use Rattle.to_spice_rules.proofs.Joined.{found_first, found_none, next_bit, own_bit_of, port_done}
use Rattle.to_spice_rules.proofs.connections.joined_in_port.Goals as goal

pub returns-in-Some : goal.returns-in-Some
returns-in-Some c =
    let bit = own_bit_of c.args.cell.now c.args.port c.loop-bit.bit _ _ c.requires.port c.items.ensures c.index-items-port.is c.port_width-width.ensures.width c.loop-bit-test.true in
    found_first c.args.cell.now c.args.classes.now c.requires.classes c.requires.own c.args.port c.loop-bit.bit bit c.in-Some.first (sym c.first_before.ensures ∙ c.in-Some.is) c.loop-bit.invariant

pub loop-bit-preserved : goal.loop-bit-preserved
loop-bit-preserved c =
    let bit = own_bit_of c.args.cell.now c.args.port c.loop-bit.bit _ _ c.requires.port c.items.ensures c.index-items-port.is c.port_width-width.ensures.width c.loop-bit-test.true in
    next_bit c.args.cell.now c.args.port c.loop-bit.bit c.loop-bit.invariant
    (found_none c.args.cell.now c.args.classes.now c.requires.classes c.requires.own c.args.port c.loop-bit.bit bit (sym c.first_before.ensures ∙ c.in_default.is))

pub returns : goal.returns
returns c = port_done c.args.cell.now c.args.port c.loop-bit.bit _ _ c.requires.port c.items.ensures c.index-items-port.is c.port_width-width.ensures.width c.loop-bit-test.false c.loop-bit.invariant
