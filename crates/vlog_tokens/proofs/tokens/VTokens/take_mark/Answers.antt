use Rattle.vlog_tokens.proofs.HeldMarks.{mark_taken}
use Rattle.vlog_tokens.proofs.tokens.VTokens.take_mark.Goals as goal

pub returns-clause-reads : goal.returns-clause-reads
returns-clause-reads c = λ mark is unspent i. rw c.pass_mark.ensures (mark_taken _ _ _ c.self.view_is c.place-here.ensures.held mark is unspent i)
