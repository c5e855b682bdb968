use Rattle.std.proofs.Common.{◌∙◌}
use Rattle.flat_classes.specs.Ways.{path_at}
use Rattle.flat_report.proofs.OneReport.{listed_path}
use Rattle.net_flatten_refusals.proofs.repeats.name_at.Goals as goal

pub returns : goal.returns
returns c = λ paths of. c.in_ok-text.ensures ∙ c.in_ok-name.ensures (path_at paths c.args.spot) (listed_path c.args.hier.now c.cells-cells.ensures.valid.valid c.args.spots.now c.requires.spots paths of c.args.spot c.requires.spot)
