use Rattle.std.proofs.Common.{◌≡◌, drop}
use Rattle.to_spice_rules.specs.Sets.{with_names}
use Rattle.to_spice_nodes.proofs.nodes.use_names.Given as goal

abbrev pub invariant-loop-name : goal.invariant-loop-name
invariant-loop-name l = with_names l.used (drop l.name-index l.names) ≡ with_names l.initial.used l.names
