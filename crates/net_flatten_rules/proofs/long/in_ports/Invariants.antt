use Rattle.std.proofs.Common.{◌≡◌, drop}
use Rattle.net_flatten_rules.specs.Rules.{first_of, long_ports}
use Rattle.net_flatten_rules.proofs.long.in_ports.Given as goal

abbrev pub invariant-loop-port : goal.invariant-loop-port
invariant-loop-port l = first_of (long_ports (drop l.port-index l.ports)) ≡ first_of (long_ports l.ports)
