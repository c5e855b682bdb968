use Rattle.std.proofs.Common.{◌∷◌, [], ◌<◌, ◌∙◌, ap, sym, subst, length, Some}
use Rattle.nl_base.specs.declared.rule.Rule.TheVariants.{E13}
use Rattle.edif_resolve.proofs.Answering.{inner_within, outer_within, recursion_answered}
use Rattle.edif_resolve.proofs.answer.recursion_refusal.Goals as goal

pub bounds-cells-cell : goal.bounds-cells-cell
bounds-cells-cell c = outer_within c.args.cells.now c.args.cell c.args.instance c.requires.first.closing

pub bounds-items-instance : goal.bounds-items-instance
bounds-items-instance c =
    subst (λ items. c.args.instance < length items) (sym c.items.ensures)
    (inner_within c.args.cells.now c.args.cell c.args.instance c.requires.first.closing c.index-cells-cell.result c.index-cells-cell.is)

pub returns : goal.returns
returns c =
    recursion_answered c.args.cells.now c.requires.fit c.args.cell c.args.instance c.requires.first c.index-cells-cell.result c.index-cells-cell.is
    c.items.result.now c.items.ensures c.index-items-instance.result c.index-items-instance.is
    ∙ sym (ap Some c.in_ok-made.ensures
    ∙ (λ j. Some (record { rule = E13; cell = c.bytes-2.ensures j; names = (c.in_ok-names.ensures ∙ ap (λ name. name ∷ []) c.bytes.ensures) j })))
