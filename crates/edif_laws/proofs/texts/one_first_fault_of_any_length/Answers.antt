use Rattle.edif_laws.proofs.AnyLength.{one_first_fault}
use Rattle.edif_laws.proofs.texts.one_first_fault_of_any_length.Goals as goal

pub returns : goal.returns
returns c = one_first_fault
