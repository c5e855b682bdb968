use Rattle.std.proofs.Common.{sym, ◌∙◌}
use Rattle.vlog_tokens.proofs.Keywords.{turn_on}
use Rattle.vlog_tokens.proofs.keyword.is_among.Goals as goal

pub loop-number-preserved : goal.loop-number-preserved
loop-number-preserved c = turn_on _ _ _ c.loop-number-test.true (sym c.is_word.ensures ∙ c.if-is_word.false) ∙ c.loop-number.invariant
