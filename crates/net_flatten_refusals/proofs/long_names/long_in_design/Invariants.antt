use Rattle.std.proofs.Common.{◌≡◌, ◌∷◌, [], drop, filter, map}
use Rattle.net_hier.specs.Design.{top_name}
use Rattle.net_flatten_rules.specs.Rules.{first_of, is_long, long_in_design, refused}
use Rattle.net_flatten_rules.specs.declared.refusal.FlattenRule.TheVariants.{F2}
use Rattle.net_flatten_refusals.proofs.long_names.long_in_design.Given as goal

abbrev pub invariant-loop-prop : goal.invariant-loop-prop
invariant-loop-prop l = first_of (map (λ prop. refused F2 (top_name l.hier.cells l.hier.top) (prop.name ∷ [])) (filter (λ prop. is_long prop.name) (drop l.prop-index l.hier.props))) ≡ first_of (long_in_design l.hier)
