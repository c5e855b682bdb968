use Rattle.vectors_laws.proofs.Values.{file_is}
use Rattle.vectors_laws.proofs.laws.generated_files_are_values.Goals as goal

pub returns : goal.returns
returns c = file_is
