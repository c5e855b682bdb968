use Rattle.net_hier.specs.declared.nodes.Node.TheVariants.{Pin}
use Rattle.std.proofs.Common.{refl}
use Rattle.to_spice_nodes.proofs.Loops.{bits_turn}
use Rattle.to_spice_nodes.proofs.pins.push_pins.Goals as goal

pub loop-bit-preserved : goal.loop-bit-preserved
loop-bit-preserved c = bits_turn (λ b. Pin c.args.instance c.args.number b) c.args.pins.now.items c.loop-bit.pins.items c.push.new.self.items c.loop-bit.bit _ c.loop-bit.invariant refl c.in_ok-push.ensures.items
