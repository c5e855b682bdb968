use Rattle.std.proofs.Common.{arith}
use Rattle.edif_tokens.proofs.HeldTokens.{word_taken, word_within}
use Rattle.edif_tokens.proofs.tokens.Tokens.take_word.Goals as goal

pub returns-clause-reads : goal.returns-clause-reads
returns-clause-reads c = λ unspent i. rw c.pass_word.ensures (word_taken _ _ _ c.self.view_is c.place-here.ensures.held (omega (arith, c.requires.some, c.requires.word)) unspent i)

pub returns-clause-limit : goal.returns-clause-limit
returns-clause-limit c = rw c.pass_word.ensures (word_within _ _ _ c.self.view_is c.args.count c.requires.word c.requires.some)
