use Rattle.vectors_line.proofs.Whole.{text_reads_back}
use Rattle.vectors_line.proofs.laws.generated_texts_read_back.Goals as goal

pub returns : goal.returns
returns c = text_reads_back
