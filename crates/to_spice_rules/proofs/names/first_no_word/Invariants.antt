use Rattle.std.proofs.Common.{◌≡◌, drop}
use Rattle.to_spice_rules.specs.Names.{first_of, in_cells, no_words}
use Rattle.to_spice_rules.specs.declared.refusal.SpiceRule.TheVariants.{S1}
use Rattle.to_spice_rules.proofs.names.first_no_word.Given as goal

abbrev pub invariant-loop-cell : goal.invariant-loop-cell
invariant-loop-cell l = first_of (in_cells S1 no_words (drop l.cell-index l.cells)) ≡ first_of (in_cells S1 no_words l.cells)
