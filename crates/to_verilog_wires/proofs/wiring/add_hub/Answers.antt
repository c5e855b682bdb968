use Rattle.std.proofs.Common.{subst}
use Rattle.to_verilog_wires.specs.Given.{IsHubFor}
use Rattle.to_verilog_wires.proofs.GivenLaws.{given_at}
use Rattle.to_verilog_wires.proofs.wiring.add_hub.Goals as goal

pub returns-in-Ok : goal.returns-in-Ok
returns-in-Ok c = record {
  hub = c.in_ok-hub.hub;
  is_hub = subst (λ nodes. IsHubFor c.args.cell.now nodes c.args.wires.now c.hub_for.new.wires c.in_ok-hub.hub) c.around.ensures c.in_ok-hub.ensures;
  given = given_at c.args.hubs.now.entries c.insert.new.self.entries c.args.root c.in_ok-hub.hub c.in-Ok.ensures.updates.0;
}
