use Rattle.edif_tokens.proofs.HeldTokens.{mark_taken, mark_within}
use Rattle.edif_tokens.proofs.tokens.Tokens.take_mark.Goals as goal

pub returns-clause-reads : goal.returns-clause-reads
returns-clause-reads c = λ mark is unspent i. rw c.pass_mark.ensures (mark_taken _ _ _ c.self.view_is c.place-here.ensures.held mark is unspent i)

pub returns-clause-limit : goal.returns-clause-limit
returns-clause-limit c = rw c.pass_mark.ensures (mark_within _ _ _ c.self.view_is _ c.requires.1)
