use Rattle.net_flatten.proofs.Whole.{same_flat}
use Rattle.net_flatten.proofs.flattening.flatten.Goals as goal

pub returns-in-Ok-clause-same : goal.returns-in-Ok-clause-same
returns-in-Ok-clause-same c = same_flat c.args.constants.now c.args.hier.now c.flatten_by.result c.cells-cells.ensures.valid.valid (c.flatten_by.ensures c.args.constants.now c.in-Ok.ensures.classes.0)
