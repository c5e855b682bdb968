use Rattle.edif_tokens.proofs.Words.{identifier_led}
use Rattle.edif_tokens.proofs.lexeme.pieced_word.Goals as goal

pub word_of-requires-clause-spelled : goal.word_of-requires-clause-spelled
word_of-requires-clause-spelled g c =
    identifier_led (c.in_ok-text.ensures.text.shape c.args.byte c.requires.ahead.0 c.requires.ahead.1) c.requires.begins

pub word_of-requires-clause-short : goal.word_of-requires-clause-short
word_of-requires-clause-short g c =
    (c.in_ok-text.ensures.text.shape c.args.byte c.requires.ahead.0 c.requires.ahead.1).short
