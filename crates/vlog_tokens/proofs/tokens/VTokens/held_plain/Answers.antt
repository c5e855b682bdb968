use Rattle.vlog_tokens.proofs.HeldPlains.{plain_proper}
use Rattle.vlog_tokens.proofs.tokens.VTokens.held_plain.Goals as goal

pub returns-clause-proper : goal.returns-clause-proper
returns-clause-proper c = rw c.held_plain.ensures (plain_proper _)
