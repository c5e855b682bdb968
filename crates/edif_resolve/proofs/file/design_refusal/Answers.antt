use Rattle.std.proofs.Common.{◌≡◌, ◌∷◌, [], ◌∙◌, ap, sym, Some, None, slice_get}
use Rattle.nl_base.specs.declared.rule.Rule.TheVariants.{E4}
use Rattle.edif_lookup.specs.Refusals.{broken, lowest}
use Rattle.edif_design.specs.CellRules.{link_refusals}
use Rattle.edif_design.specs.References.{file_cells, link_meant, number_meant, top_meant}
use Rattle.edif_design.specs.Tables.{linked_number, linked_refusal}
use Rattle.edif_resolve.specs.Walk.{lacks_view}
use Rattle.edif_resolve.proofs.Walking.{copied_map, design_linked}
use Rattle.edif_resolve.proofs.file.design_refusal.Goals as goal

pub returns-in_ok-found-in-Cell : goal.returns-in_ok-found-in-Cell
returns-in_ok-found-in-Cell c =
    let number : Some c.in-Cell.number ≡ number_meant (top_meant c.args.tabled.now c.args.design.now) =
    ap linked_number (sym c.in-Cell.is) ∙ (c.in_ok-linked.ensures.number ∙ (λ j. number_meant (link_meant (c.tables-tables.ensures j) 0 (Some (c.bytes.ensures.bytes j)) (c.bytes-2.ensures.bytes j)))) in
    let unbroken : None ≡ lowest (link_refusals c.args.tabled.now 0 [] (Some c.args.design.now.library) c.args.design.now.cell) =
    ap linked_refusal (sym c.in-Cell.is) ∙ (c.in_ok-linked.ensures.refusal ∙ (λ j. lowest (link_refusals (c.tables-tables.ensures j) 0 [] (Some (c.bytes.ensures.bytes j)) (c.bytes-2.ensures.bytes j)))) in
    design_linked c.args.tabled.now c.args.design.now c.in-Cell.number number unbroken c.lacks_view-missing.result
    (c.lacks_view-missing.ensures ∙ ap lacks_view (copied_map c.cell.result ∙ (c.cell.ensures ∙ ap (λ file. slice_get (file_cells file) c.in-Cell.number) c.tables-tables.ensures)))
    c.in_ok-found-in-Cell.found (c.in_ok-found-in-Cell.ensures ∙ ap (λ s. lowest (broken c.lacks_view-missing.result E4 [] (s ∷ []))) c.bytes-in-Cell.ensures.bytes)
