use Rattle.std.proofs.Common.{sym, ◌∙◌}
use Rattle.edif_tokens.proofs.Words.{letter_begins}
use Rattle.edif_tokens.proofs.lexeme.pieced_token.Goals as goal

pub pieced_word-requires-clause-begins : goal.pieced_word-requires-clause-begins
pieced_word-requires-clause-begins g c = letter_begins c.args.byte (sym c.start_of.ensures ∙ c.in-Letter.is)
