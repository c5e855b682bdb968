use Rattle.vlog_tokens.proofs.HeldPlains.{plain_taken}
use Rattle.vlog_tokens.proofs.tokens.VTokens.take_plain.Goals as goal

pub returns-clause-reads : goal.returns-clause-reads
returns-clause-reads c = λ plain is unspent i. rw c.pass_plain.ensures (plain_taken _ _ _ c.self.view_is c.place-here.ensures.held plain is unspent i)
