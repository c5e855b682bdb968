use Rattle.edif_status.specs.Grammar.{note}
use Rattle.edif_status.proofs.Live.{live_note, closed_note}
use Rattle.edif_laws.proofs.Reading.{exact}
use Rattle.edif_laws.proofs.parts.notes_are_exact.Goals as goal

pub returns : goal.returns
returns c = λ keyword. exact (note keyword) (live_note keyword) (closed_note keyword)
