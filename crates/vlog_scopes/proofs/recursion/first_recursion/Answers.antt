use Rattle.std.proofs.Common.{ℕ, subst}
use Rattle.std.specs.Prelude.{MatchOption}
use Rattle.net_graph.specs.Graph.{IsFirstRecursion, ReachesItself}
use Rattle.vlog_design.specs.Reach.{modules_below}
use Rattle.vlog_design.specs.Tables.{modules_of}
use Rattle.vlog_scopes.proofs.RecursionLaws.{no_recursion}
use Rattle.vlog_scopes.proofs.recursion.first_recursion.Goals as goal

pub returns-in-None : goal.returns-in-None
returns-in-None c =
    let modules = modules_of c.args.modules.now in
    no_recursion modules c.requires.differ
    (subst (λ found. MatchOption found ((number : ℕ) → ¬ ReachesItself (modules_below modules) number) (λ recursion. IsFirstRecursion (modules_below modules) recursion.number recursion.place)) c.in-None.is c.in_ok-found.ensures)
