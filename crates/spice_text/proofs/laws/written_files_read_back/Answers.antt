use Rattle.spice_text.proofs.Folding.{reads_back}
use Rattle.spice_text.proofs.laws.written_files_read_back.Goals as goal

pub returns : goal.returns
returns c = λ file names. reads_back file names
