use Rattle.edif_design_laws.proofs.Designs.{answered_sound, said_sound}
use Rattle.edif_design_laws.proofs.laws.designs_are_sound.Goals as goal

pub returns : goal.returns
returns c = record { said = said_sound; answered = answered_sound }
