use Rattle.std.proofs.Common.{◌≡◌, drop}
use Rattle.net_flatten_rules.specs.Rules.{first_of, long_props}
use Rattle.net_flatten_rules.proofs.long.in_props.Given as goal

abbrev pub invariant-loop-prop : goal.invariant-loop-prop
invariant-loop-prop l = first_of (long_props (drop l.prop-index l.props)) ≡ first_of (long_props l.props)
