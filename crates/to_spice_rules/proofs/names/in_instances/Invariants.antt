use Rattle.std.proofs.Common.{◌≡◌, drop, map, flat_map, codes}
use Rattle.to_spice_rules.specs.Names.{first_of, no_word, refused}
use Rattle.to_spice_rules.specs.declared.refusal.SpiceRule.TheVariants.{S1}
use Rattle.to_spice_rules.proofs.names.in_instances.Given as goal

abbrev pub invariant-loop-instance : goal.invariant-loop-instance
invariant-loop-instance l = first_of (flat_map (λ x. map (refused S1 l.cell) (no_word (codes "instance") x.name)) (drop l.instance-index l.instances)) ≡ first_of (flat_map (λ x. map (refused S1 l.cell) (no_word (codes "instance") x.name)) l.instances)
