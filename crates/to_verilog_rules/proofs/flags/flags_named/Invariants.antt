use Rattle.std.proofs.Common.{◌≡◌, ◌++◌, drop, map}
use Rattle.net_bits.specs.Names.{has_name}
use Rattle.net_live.specs.Last.{seen}
use Rattle.to_verilog_rules.specs.Found.{flagged_names}
use Rattle.to_verilog_rules.proofs.flags.flags_named.Given as goal

abbrev pub invariant-loop-prop : goal.invariant-loop-prop
invariant-loop-prop l = map (λ x. x.now) l.names.items ++ flagged_names (has_name l.params) (seen (drop l.prop-index l.props)) ≡ flagged_names (has_name l.params) (seen l.props)
