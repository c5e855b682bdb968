use Rattle.std.proofs.Common.{◌≡◌, ℕ, ap, sym, subst, ◌∙◌}
use Rattle.net_graph.specs.Graph.{ReachesItself}
use Rattle.net_hier.specs.Design.{cells_below}
use Rattle.vlog_shown.specs.Interfaces.{cells_shown}
use Rattle.vlog_elab.proofs.answer.design_of.Goals as goal

pub built-requires-clause-no_recursion : goal.built-requires-clause-no_recursion
built-requires-clause-no_recursion c =
    let made : c.in_ok-cells.cells ≡ cells_shown c.args.shown.modules c.args.file.modules = c.in_ok-cells.ensures ∙ ap (λ those. cells_shown those c.args.file.modules) c.items.ensures in
    subst (λ cells. (number : ℕ) → ¬ ReachesItself (cells_below cells) number) (sym made) c.requires.no_recursion
