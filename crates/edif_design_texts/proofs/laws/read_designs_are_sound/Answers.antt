use Rattle.edif_design_laws.proofs.Designs.{answered_sound}
use Rattle.edif_rereading.proofs.Kept.{read_values}
use Rattle.edif_design_texts.proofs.laws.read_designs_are_sound.Goals as goal

pub returns : goal.returns
returns c = λ bytes file design all reads is. answered_sound file design (read_values bytes file all reads) is
