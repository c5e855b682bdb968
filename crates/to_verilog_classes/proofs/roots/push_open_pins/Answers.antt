use Rattle.std.proofs.Common.{true, false, ◌∙◌, ap, sym}
use Rattle.net_hier.specs.declared.nodes.Node.TheVariants.{Pin}
use Rattle.to_verilog_classes.proofs.RootLaws.{pins_none, pins_turn}
use Rattle.to_verilog_classes.proofs.roots.push_open_pins.Goals as goal
use Rattle.to_verilog_classes.proofs.roots.push_open_pins.Goals.{then-is_open+in_ok-push, else-is_open}

pub loop-bit-preserved : goal.loop-bit-preserved
loop-bit-preserved c =
    elim c.if-is_open.branch [
      | then-is_open+in_ok-push w ↦ pins_turn c.args.groups.now c.args.instance c.args.port c.loop-bit.bit c.args.roots.now.items c.loop-bit.roots.items c.if-is_open.roots.items true c.loop-bit.invariant
          (sym c.is_open.ensures ∙ w.if-is_open.true) (ap (λ v. v.items) w.roots-is ∙ w.in_ok-push.ensures.items)
      | else-is_open w ↦ pins_turn c.args.groups.now c.args.instance c.args.port c.loop-bit.bit c.args.roots.now.items c.loop-bit.roots.items c.if-is_open.roots.items false c.loop-bit.invariant
          (sym c.is_open.ensures ∙ w.if-is_open.false) (ap (λ v. v.items) w.roots-is ∙ pins_none (Pin c.args.instance c.args.port c.loop-bit.bit))
    ]
