use Rattle.std.proofs.Common.{arith}
use Rattle.vlog_tokens.proofs.HeldWords.{word_taken}
use Rattle.vlog_tokens.proofs.tokens.VTokens.take_word.Goals as goal

pub returns-clause-reads : goal.returns-clause-reads
returns-clause-reads c = λ unspent i. rw c.pass_word.ensures (word_taken _ _ _ c.self.view_is c.place-here.ensures.held (omega (arith, c.requires.some, c.requires.word)) unspent i)
