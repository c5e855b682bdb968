use Rattle.edif_laws.proofs.AnyLength.{one_file}
use Rattle.edif_laws.proofs.texts.one_file_of_any_length.Goals as goal

pub returns : goal.returns
returns c = one_file
