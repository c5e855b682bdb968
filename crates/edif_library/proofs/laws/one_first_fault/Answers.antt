use Rattle.edif_library.proofs.AtMostOne.{one_first_fault}
use Rattle.edif_library.proofs.laws.one_first_fault.Goals as goal

pub returns : goal.returns
returns c = one_first_fault
