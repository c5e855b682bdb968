use Rattle.std.proofs.Common.{sym, ◌∙◌}
use Rattle.vlog_tokens.proofs.Streams.{other_read}
use Rattle.vlog_tokens.proofs.Proper.{begins_so_far}
use Rattle.vlog_tokens.proofs.finding.item.Goals as goal

pub returns-in-Other-clause-reads : goal.returns-in-Other-clause-reads
returns-in-Other-clause-reads g c = rw (c.refuse.ensures, c.place-place.ensures.place) (other_read _ _ c.args.byte (sym c.start_of.ensures ∙ c.in-Other.is))

pub returns-in-Lexeme-clause-proper : goal.returns-in-Lexeme-clause-proper
returns-in-Lexeme-clause-proper g c = c.lexeme.ensures.proper (begins_so_far c.args.byte _ (sym c.start_of.ensures ∙ c.in-Lexeme.is))
