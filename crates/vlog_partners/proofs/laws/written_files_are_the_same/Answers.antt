use Rattle.vlog_partners.proofs.Collected.{file_good, file_same_cells, file_same_design}
use Rattle.vlog_partners.proofs.laws.written_files_are_the_same.Goals as goal

pub returns : goal.returns
returns c = record {
  no_refusal = λ design file are valid own. file_good design file are valid own;
  same_cells = λ design file are valid own names other cells top props. file_same_cells design file are valid own names other cells top props;
  same_design = λ design file are valid own names other cells top props constants. file_same_design design file are valid own names other cells top props constants;
}
