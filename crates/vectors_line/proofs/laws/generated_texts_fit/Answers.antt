use Rattle.vectors_line.proofs.Parts.{text_fits}
use Rattle.vectors_line.proofs.laws.generated_texts_fit.Goals as goal

pub returns : goal.returns
returns c = text_fits
