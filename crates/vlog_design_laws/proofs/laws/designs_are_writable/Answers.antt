use Rattle.vlog_design_laws.proofs.ShortNames.{short_names}
use Rattle.vlog_design_laws.proofs.SoundValues.{sound}
use Rattle.vlog_design_laws.proofs.laws.designs_are_writable.Goals as goal

pub returns : goal.returns
returns c = record { short = λ file top design value is. short_names file top value design is; sound = λ file top design value is. sound file top value design is }
