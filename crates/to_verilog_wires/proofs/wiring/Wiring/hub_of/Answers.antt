use Rattle.std.proofs.Common.{◌∙◌, ap}
use Rattle.to_verilog_wires.specs.Wiring.{hub_in, hub_of}
use Rattle.to_verilog_wires.proofs.GivenLaws.{looked_up}
use Rattle.to_verilog_wires.proofs.wiring.Wiring.hub_of.Goals as goal

pub returns : goal.returns
returns c =
    c.copied.ensures ∙ (c.get.ensures.value ∙ (looked_up c.self.inside.hubs.entries c.root.result
    ∙ (ap (hub_in c.self.inside.hubs.entries) c.root.ensures ∙ ap (λ w. hub_of w c.args.node.now) c.self.view_is)))
