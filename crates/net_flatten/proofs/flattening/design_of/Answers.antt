use Rattle.std.proofs.Common.{subst}
use Rattle.net_flatten.proofs.Whole.{none_first}
use Rattle.net_hier.specs.Build.{IsFaultOf}
use Rattle.net_hier.specs.Design.{cells_below}
use Rattle.net_flatten.proofs.flattening.design_of.Goals as goal

pub unreachable-requires : goal.unreachable-requires
unreachable-requires c = none_first (cells_below c.args.cells) c.requires.free c.in-Recursion.cell c.in-Recursion.instance (subst (IsFaultOf c.args.cells) c.in-Recursion.is c.in-Err.ensures)
