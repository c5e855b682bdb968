use Rattle.std.proofs.Common.{Some, ap, ◌∙◌}
use Rattle.vlog_design.specs.Design.{attr_props, net_name}
use Rattle.vlog_cells.proofs.NetLaws.{indexed}
use Rattle.vlog_cells.proofs.Turns.{bit_turn}
use Rattle.vlog_cells.proofs.nets.add_bits.Goals as goal

pub loop-bit-preserved : goal.loop-bit-preserved
loop-bit-preserved c =
    let wire = c.args.wire.now in
    record {
      named = c.in_ok-name.ensures.kept ∙ c.loop-bit.invariant.named;
      added = bit_turn (λ bit. record { name = net_name wire.name.now (Some c.args.range) bit; props = attr_props wire.attrs.now }) c.loop-bit.bit c.args.made.now.items c.loop-bit.made.items c.push_net.new.made.items
          (record { name = c.in_ok-name.name; props = attr_props wire.attrs.now })
          c.loop-bit.invariant.added c.in_ok-push_net.ensures.added
          (ap (λ name. record { name = name; props = attr_props wire.attrs.now }) (c.in_ok-name.ensures.name ∙ indexed wire.name.now c.loop-bit.front.items c.args.range c.loop-bit.bit c.loop-bit.invariant.named));
    }
