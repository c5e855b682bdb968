use Rattle.edif_rereading.proofs.Kept.{read_values}
use Rattle.edif_rereading.proofs.Law.{text_reads}
use Rattle.edif_rereading.proofs.laws.files_read_are_written.Goals as goal

pub returns : goal.returns
returns c = record { value = read_values; again = λ bs v all reads fits. text_reads v (read_values bs v all reads) fits }
