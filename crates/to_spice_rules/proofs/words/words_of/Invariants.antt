use Rattle.std.proofs.Common.{◌≡◌, ◌++◌, drop, flat_map}
use Rattle.to_spice_rules.specs.PortWords.{bit_words}
use Rattle.to_spice_rules.proofs.words.words_of.Given as goal

abbrev pub invariant-loop-port : goal.invariant-loop-port
invariant-loop-port l = l.words ++ flat_map bit_words (drop l.port-index l.port-items) ≡ flat_map bit_words l.port-items
