use Rattle.vectors_laws.proofs.Whole.{design_fits}
use Rattle.vectors_laws.proofs.laws.generated_designs_fit.Goals as goal

pub returns : goal.returns
returns c = design_fits
