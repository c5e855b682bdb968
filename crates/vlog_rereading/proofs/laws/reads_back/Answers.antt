use Rattle.vlog_rereading.proofs.Law.{text_spells, text_reads}
use Rattle.vlog_rereading.proofs.laws.reads_back.Goals as goal

pub returns : goal.returns
returns c = record { spells = text_spells; reads = text_reads }
