use Rattle.std.proofs.Common.{◌≡◌, ◌++◌, drop, map}
use Rattle.net_live.specs.Last.{seen}
use Rattle.to_spice_rules.proofs.again.names_of_instances.Given as goal

abbrev pub invariant-loop-instance : goal.invariant-loop-instance
invariant-loop-instance l = seen l.names.items ++ map (λ x. x.name) (drop l.instance-index l.instances) ≡ map (λ x. x.name) l.instances
