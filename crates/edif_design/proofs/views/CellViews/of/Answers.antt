use Rattle.std.proofs.Common.{◌∙◌, ap, map}
use Rattle.edif_design.proofs.ViewLaws.{written_names}
use Rattle.edif_design.proofs.views.CellViews.of.Goals as goal

pub returns-then-len-gt1 : goal.returns-then-len-gt1
returns-then-len-gt1 c = ap (map (λ entry. entry.1)) (c.in_ok-new.ensures.ok ∙ c.in_ok-table.ensures) ∙ written_names c.args.entries.items
