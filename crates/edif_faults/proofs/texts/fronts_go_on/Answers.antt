use Rattle.edif_faults.proofs.File.{fronts}
use Rattle.edif_faults.proofs.texts.fronts_go_on.Goals as goal

pub returns : goal.returns
returns c = fronts
