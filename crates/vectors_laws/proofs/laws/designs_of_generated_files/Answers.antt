use Rattle.vectors_laws.proofs.Designs.{cells_are, no_properties, top_number}
use Rattle.vectors_laws.proofs.laws.designs_of_generated_files.Goals as goal

pub returns : goal.returns
returns c = record {
  cells = λ seed cells some small. cells_are seed cells small some;
  top = λ seed cells some small. top_number seed cells small some;
  props = λ seed cells some small. no_properties seed cells small some;
}
