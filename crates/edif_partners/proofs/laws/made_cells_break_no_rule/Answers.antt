use Rattle.edif_partners.proofs.CellRules.{made_none}
use Rattle.edif_partners.proofs.laws.made_cells_break_no_rule.Goals as goal

pub returns : goal.returns
returns c = made_none
