use Rattle.to_spice_rules.specs.Connections.{HasPortsApart, HoldsBefore}
use Rattle.to_spice_rules.specs.Found.{TiedFound}
use Rattle.to_spice_rules.proofs.connections.first_connection.Given as goal

abbrev pub invariant-loop-number : goal.invariant-loop-number
invariant-loop-number l = HoldsBefore HasPortsApart l.hier.cells l.number × TiedFound l.hier.cells l.number l.tied
