use Rattle.std.proofs.Common.{◌≡◌, drop}
use Rattle.to_spice_rules.specs.Names.{first_of, in_cells, words_again}
use Rattle.to_spice_rules.specs.declared.refusal.SpiceRule.TheVariants.{S3}
use Rattle.to_spice_rules.proofs.again.first_second_word.Given as goal

abbrev pub invariant-loop-cell : goal.invariant-loop-cell
invariant-loop-cell l = first_of (in_cells S3 words_again (drop l.cell-index l.cells)) ≡ first_of (in_cells S3 words_again l.cells)
