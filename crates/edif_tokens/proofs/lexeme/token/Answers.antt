use Rattle.edif_tokens.proofs.Held.{reads_over}
use Rattle.edif_tokens.proofs.lexeme.token.Goals as goal

pub returns-then-found-gt-LIMIT-clause-reads : goal.returns-then-found-gt-LIMIT-clause-reads
returns-then-found-gt-LIMIT-clause-reads g c = reads_over c.in_ok-found.ensures.reads c.if-found-gt-LIMIT.true
