use Rattle.std.proofs.Common.{◌≡◌, ◌∙◌, ℕ, Some, slice_get, subst, sym}
use Rattle.net_graph.specs.Graph.{IsFirstRecursion}
use Rattle.net_hier.specs.Design.{cells_below}
use Rattle.net_hier.specs.Valid.{CellsFit}
use Rattle.edif_design.specs.Design.{edif_top}
use Rattle.edif_design.specs.FileRules.{recursion_refusals}
use Rattle.edif_resolve.proofs.FewParts.{cells_fit}
use Rattle.edif_resolve.proofs.answer.file_recursion.Goals as goal

pub recursion_refusal-requires-clause-fit : goal.recursion_refusal-requires-clause-fit
recursion_refusal-requires-clause-fit c =
    subst (λ cells. (top : ℕ) × CellsFit cells top) (sym (c.items.ensures ∙ c.in_ok-cells.ensures))
    (edif_top c.args.tabled.now, cells_fit c.args.tabled.now c.requires.clean c.requires.small)

pub recursion_refusal-requires-clause-first : goal.recursion_refusal-requires-clause-first
recursion_refusal-requires-clause-first c =
    subst (λ cells. IsFirstRecursion (cells_below cells) c.args.cell c.args.instance) (sym (c.items.ensures ∙ c.in_ok-cells.ensures)) c.requires.first

pub returns : goal.returns
returns c = subst (λ cells. slice_get (recursion_refusals cells) 0 ≡ Some c.in_ok-made.made) (c.items.ensures ∙ c.in_ok-cells.ensures) c.in_ok-made.ensures
