use Rattle.std.proofs.Common.{arith}
use Rattle.std.proofs.lemmas.List.Sums.{prefix_len-le-length}
use Rattle.nl_bytes.specs.Classes.{is_space}
use Rattle.edif_tokens.proofs.HeldTokens.{word_enough}
use Rattle.edif_tokens.proofs.ahead.held_word.Goals as goal

pub split_at-requires : goal.split_at-requires
split_at-requires c = omega (arith, c.front.ensures, prefix_len-le-length is_space c.held-held.result.now)

pub split_at-requires-2 : goal.split_at-requires-2
split_at-requires-2 c = omega (arith, c.word_length.ensures, word_enough c.split_at.result.1.now)
