use Rattle.std.proofs.Common.{◌≡◌, drop}
use Rattle.net_bits.specs.Names.{has_name}
use Rattle.vlog_design.specs.Rules.{first_of}
use Rattle.nl_base.specs.declared.rule.Rule.TheVariants.{V5}
use Rattle.to_verilog_rules.specs.Rules.{in_cells, boolean_parameters}
use Rattle.to_verilog_rules.proofs.first.first_boolean.Given as goal

abbrev pub invariant-loop-cell : goal.invariant-loop-cell
invariant-loop-cell l = first_of (in_cells V5 (boolean_parameters (has_name l.params)) (drop l.cell-index l.cells)) ≡ first_of (in_cells V5 (boolean_parameters (has_name l.params)) l.cells)
