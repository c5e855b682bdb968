use Rattle.vlog_plain.proofs.CellLaws.{cells_are, top_cell}
use Rattle.vlog_plain.proofs.Places.{number_of}
use Rattle.vlog_plain.proofs.laws.plain_files_are_designs.Goals as goal

pub returns : goal.returns
returns c = record {
  cells = λ ps top name file. cells_are ps top name file;
  top = λ ps top name file. top_cell ps top name file;
  numbers = λ ps top name file place p e. number_of ps place p file.distinct e;
}
