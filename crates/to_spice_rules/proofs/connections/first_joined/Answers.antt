use Rattle.std.proofs.Common.{◌≤◌, subst}
use Rattle.to_spice_rules.proofs.Joined.{first_port, last_port, next_port}
use Rattle.to_spice_rules.proofs.connections.first_joined.Goals as goal

pub loop-port-init : goal.loop-port-init
loop-port-init c = first_port c.args.cell.now

pub loop-port-preserved : goal.loop-port-preserved
loop-port-preserved c = next_port c.args.cell.now c.loop-port.port c.in_default.ensures

pub returns : goal.returns
returns c = last_port c.args.cell.now c.loop-port.port (subst (λ n. n ≤ c.loop-port.port) c.len-port-end.ensures c.loop-port-test.false) c.loop-port.invariant
