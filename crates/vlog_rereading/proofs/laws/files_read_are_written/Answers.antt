use Rattle.vlog_bounds.proofs.Modules.{file_is_value}
use Rattle.vlog_rereading.proofs.Law.{text_spells, text_reads}
use Rattle.vlog_rereading.proofs.laws.files_read_are_written.Goals as goal

pub returns : goal.returns
returns c = record {
  spells = λ bs v all reads. text_spells v (file_is_value bs v all reads);
  again = λ bs v all reads fits. text_reads v (file_is_value bs v all reads) fits;
}
