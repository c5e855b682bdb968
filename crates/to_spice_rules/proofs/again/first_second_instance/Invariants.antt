use Rattle.std.proofs.Common.{◌≡◌, drop}
use Rattle.to_spice_rules.specs.Names.{first_of, in_cells, instances_again}
use Rattle.to_spice_rules.specs.declared.refusal.SpiceRule.TheVariants.{S4}
use Rattle.to_spice_rules.proofs.again.first_second_instance.Given as goal

abbrev pub invariant-loop-cell : goal.invariant-loop-cell
invariant-loop-cell l = first_of (in_cells S4 instances_again (drop l.cell-index l.cells)) ≡ first_of (in_cells S4 instances_again l.cells)
