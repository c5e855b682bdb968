use Rattle.std.proofs.Common.{◌≡◌, drop, map, flat_map, codes}
use Rattle.to_spice_rules.specs.Names.{first_of, no_word, refused}
use Rattle.to_spice_rules.specs.declared.refusal.SpiceRule.TheVariants.{S1}
use Rattle.to_spice_rules.proofs.names.in_words.Given as goal

abbrev pub invariant-loop-word : goal.invariant-loop-word
invariant-loop-word l = first_of (flat_map (λ w. map (refused S1 l.cell) (no_word (codes "port") w)) (drop l.word-index l.words)) ≡ first_of (flat_map (λ w. map (refused S1 l.cell) (no_word (codes "port") w)) l.words)
