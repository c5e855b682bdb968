use Rattle.edif_productions.proofs.FileTexts.{all_file_items, files, whole_files}
use Rattle.edif_productions.proofs.file.files_are_read.Goals as goal

pub returns-clause-items : goal.returns-clause-items
returns-clause-items c = all_file_items

pub returns-clause-file : goal.returns-clause-file
returns-clause-file c = files

pub returns-clause-input : goal.returns-clause-input
returns-clause-input c = whole_files
