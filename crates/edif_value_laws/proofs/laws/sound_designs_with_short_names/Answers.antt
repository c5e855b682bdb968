use Rattle.edif_value_laws.proofs.Sound.{sound_design}
use Rattle.edif_value_laws.proofs.laws.sound_designs_with_short_names.Goals as goal

pub returns : goal.returns
returns c = sound_design
