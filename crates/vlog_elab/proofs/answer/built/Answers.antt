use Rattle.std.proofs.Common.{subst}
use Rattle.net_hier.specs.Build.{IsFaultOf}
use Rattle.net_hier.specs.Design.{cells_below}
use Rattle.vlog_elab.proofs.Answering.{first_reaches}
use Rattle.vlog_elab.proofs.answer.built.Goals as goal

pub unreachable-requires : goal.unreachable-requires
unreachable-requires c =
    c.requires.no_recursion c.in-Recursion.cell
    (first_reaches (cells_below c.args.cells) c.in-Recursion.cell c.in-Recursion.instance (subst (IsFaultOf c.args.cells) c.in-Recursion.is c.in-Err.ensures))
