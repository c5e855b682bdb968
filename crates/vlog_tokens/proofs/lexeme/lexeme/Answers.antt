use Rattle.std.proofs.Common.{refl}
use Rattle.std.proofs.lemmas.Result.{err_from_is_err_and}
use Rattle.vlog_tokens.specs.Spelling.{lexeme_spelled}
use Rattle.vlog_tokens.specs.Items.{finish}
use Rattle.vlog_tokens.proofs.Reading.{lexeme_read, reads_err, finish_on}
use Rattle.vlog_tokens.proofs.Proper.{item_good, spot_proper}
use Rattle.vlog_tokens.proofs.lexeme.lexeme.Goals as goal

pub returns-in_err-phase-clause-reads : goal.returns-in_err-phase-clause-reads
returns-in_err-phase-clause-reads g c =
    let p = err_from_is_err_and c.from_residual.result c.from_residual.ensures.1 in
    rw (p.1, p.2) (reads_err c.in_err-phase.ensures.part finish finish_on (lexeme_spelled c.args.begins c.args.byte) (λ bs. refl))

pub returns-clause-reads : goal.returns-clause-reads
returns-clause-reads g c =
    rw c.spot_of.ensures (lexeme_read c.args.begins c.args.byte c.in_ok-phase.ensures.part c.in_ok-phase.ensures.some c.in_ok-phase.ensures.stop c.in_ok-item.item c.in_ok-item.ensures _ c.place-place.ensures.place)

pub returns-clause-proper : goal.returns-clause-proper
returns-clause-proper g c = λ h. rw (c.spot_of.ensures, c.in_ok-item.ensures) (spot_proper _ _ _ (item_good _ _ (c.in_ok-phase.ensures.so_far h)))
