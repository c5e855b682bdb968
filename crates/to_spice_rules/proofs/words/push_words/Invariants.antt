use Rattle.std.proofs.Common.{◌≡◌, ◌++◌, map}
use Rattle.std.specs.List.{range_with_len}
use Rattle.net_live.specs.Live.{bit_word}
use Rattle.to_spice_rules.proofs.words.push_words.Given as goal

abbrev pub invariant-loop-bit : goal.invariant-loop-bit
invariant-loop-bit l = l.words ≡ l.fn.words ++ map (bit_word l.port) (range_with_len 0 l.bit)
