use Rattle.std.proofs.Common.{refl}
use Rattle.vlog_tokens.proofs.Parts.{steps}
use Rattle.vlog_tokens.proofs.Marks.{mark_read}
use Rattle.vlog_tokens.proofs.mark.mark.Goals as goal

pub returns-clause-reads : goal.returns-clause-reads
returns-clause-reads g c =
    mark_read _ c.args.item (steps (c.requires.ahead.2) (c.advance.ensures.held) (c.advance.ensures.place)) _ (rw c.place-place.ensures.place refl)
