use Rattle.edif_library.proofs.AtMostOne.{one_file}
use Rattle.edif_library.proofs.laws.one_file.Goals as goal

pub returns : goal.returns
returns c = one_file
