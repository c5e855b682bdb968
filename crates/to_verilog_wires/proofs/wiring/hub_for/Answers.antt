use Rattle.std.proofs.Common.{inl, inr, refl, sym, ◌∙◌, ap}
use Rattle.to_verilog_wires.specs.declared.hubs.Hub.TheVariants as hubs
use Rattle.to_verilog_wires.proofs.wiring.hub_for.Goals as goal

pub returns-in-Some : goal.returns-in-Some
returns-in-Some c = inl (record { is_hub = sym c.port_hub.ensures ∙ c.in-Some.is; same = refl })

pub returns : goal.returns
returns c = inr (record { no_port = sym c.port_hub.ensures ∙ c.in_default.is; is_hub = ap (λ n. hubs.Wire n) c.len.ensures; more = c.in_ok-add.ensures })
