use Rattle.std.proofs.Common.{◌≡◌, drop, map, flat_map}
use Rattle.nl_base.specs.declared.rule.Rule.TheVariants.{V5}
use Rattle.net_bits.specs.Names.{has_name}
use Rattle.vlog_design.specs.Rules.{first_of, refused}
use Rattle.to_verilog_rules.specs.Rules.{boolean_params_of}
use Rattle.to_verilog_rules.proofs.first.boolean_among.Given as goal

abbrev pub invariant-loop-instance : goal.invariant-loop-instance
invariant-loop-instance l = first_of (flat_map (λ x. map (refused V5 l.cell) (boolean_params_of (has_name l.params) x)) (drop l.instance-index l.instances)) ≡ first_of (flat_map (λ x. map (refused V5 l.cell) (boolean_params_of (has_name l.params) x)) l.instances)
