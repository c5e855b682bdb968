use Rattle.std.proofs.Common.{◌∙◌, ap, sym}
use Rattle.edif_lookup.specs.Tables.{meaning}
use Rattle.edif_design.specs.Views.{held_names, is_one, means_one}
use Rattle.edif_design.proofs.ViewLaws.{means_table}
use Rattle.edif_design.proofs.views.CellViews.means.Goals as goal

pub returns-in_ok-means-in-Several : goal.returns-in_ok-means-in-Several
returns-in_ok-means-in-Several c =
    c.in_ok-means-in-Several.ensures
    ∙ (ap (λ table. is_one (meaning table c.args.spelling.now)) c.deref.ensures
    ∙ (means_table c.in-Several.table.value c.args.spelling.now
    ∙ (ap (λ held. means_one (held_names held) c.args.spelling.now) (sym c.in-Several.is) ∙ ap (λ names. means_one names c.args.spelling.now) c.self.view_is)))
