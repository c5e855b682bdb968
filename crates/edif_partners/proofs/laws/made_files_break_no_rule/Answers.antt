use Rattle.edif_partners.proofs.FileRules.{made_file_none}
use Rattle.edif_partners.proofs.laws.made_files_break_no_rule.Goals as goal

pub returns : goal.returns
returns c = made_file_none
