use Rattle.vlog_tokens.proofs.HeldLiterals.{literal_taken}
use Rattle.vlog_tokens.proofs.tokens.VTokens.take_digits.Goals as goal

pub returns-clause-reads : goal.returns-clause-reads
returns-clause-reads c = λ unspent i. rw c.pass_digits.ensures (literal_taken _ _ _ c.self.view_is c.place-here.ensures.held _ _ c.requires.base c.requires.some c.requires.digits unspent i)
