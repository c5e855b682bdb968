use Rattle.edif_faults.proofs.Either.{either}
use Rattle.edif_faults.proofs.texts.a_file_or_a_first_fault.Goals as goal

pub returns : goal.returns
returns c = either
