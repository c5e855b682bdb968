use Rattle.edif_resolve.proofs.Views.{without_view}
use Rattle.edif_resolve.proofs.file.has_no_view.Goals as goal

pub returns : goal.returns
returns c = without_view c.args.cell.now c.has_view.result c.has_view.ensures
