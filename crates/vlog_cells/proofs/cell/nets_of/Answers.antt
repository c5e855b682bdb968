use Rattle.std.proofs.Common.{◌∙◌}
use Rattle.vlog_cells.proofs.cell.nets_of.Goals as goal

pub returns : goal.returns
returns c = λ m declared table. c.in_ok-nets.ensures ∙ (c.into_vec.ensures ∙ c.in_ok-list.ensures m declared table)
