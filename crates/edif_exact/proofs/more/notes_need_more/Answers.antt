use Rattle.edif_status.specs.Grammar.{note}
use Rattle.edif_status.proofs.Live.{live_note, closed_note}
use Rattle.edif_exact.proofs.Wholly.{needs_more}
use Rattle.edif_exact.proofs.more.notes_need_more.Goals as goal

pub returns : goal.returns
returns c = λ keyword. needs_more (note keyword) (live_note keyword) (closed_note keyword)
