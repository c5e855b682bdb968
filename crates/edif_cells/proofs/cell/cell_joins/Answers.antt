use Rattle.std.proofs.Common.{◌≡◌, ◌∙◌, ℕ, List, None, Some, ap, arith, false, get_or, length, refl, subst, sym}
use Rattle.std.specs.Prelude.{slice_get}
use Rattle.std.specs.List.{filter_map, list_any}
use Rattle.std.specs.Option.{option_and_then}
use Rattle.std.proofs.lemmas.List.{length-map}
use Rattle.edif_values.specs.declared.port.Port.{Port}
use Rattle.edif_design.specs.Parts.{instance_in, net_in}
use Rattle.edif_design.specs.References.{file_cells, linked_by}
use Rattle.edif_rules.specs.Lists.{seen}
use Rattle.edif_rules.proofs.SizeLaws.{few_contents, few_of}
use Rattle.edif_rules.proofs.WalkLaws.{scope_is}
use Rattle.edif_cells.specs.Values.{is_bad_port}
use Rattle.edif_cells.proofs.CellLaws.{joins_found}
use Rattle.edif_cells.proofs.GoodSizes.{good_inner, good_own}
use Rattle.edif_cells.proofs.cell.cell_joins.Goals as goal

pub of-requires : goal.of-requires
of-requires c = c.requires.few

pub of-requires-2 : goal.of-requires-2
of-requires-2 c =
    omega (
      arith,
      c.requires.few,
      few_contents c.args.cell.now,
      few_of instance_in (seen c.as_slice-2.result.now),
      ap length c.in_ok-instances_in.ensures,
      length-map c.in_ok-instances_in.field-0.items (λ r. r.now),
      ap (λ xs. length (seen xs)) c.as_slice-2.ensures.value,
      ap length c.in_ok-items.ensures,
    )

pub joins_made-requires-clause-good : goal.joins_made-requires-clause-good
joins_made-requires-clause-good c = record {
  own_good = subst (λ ps. list_any is_bad_port ps ≡ false) (sym c.in_ok-own.ensures) (good_own c.args.cell.now c.requires.own);
  inner_good =
      subst (λ fs. (instance : ℕ) (inner : List Port) → option_and_then (slice_get fs) (get_or c.args.below.now instance None) ≡ Some inner → list_any is_bad_port inner ≡ false) (sym c.requires.port_tables)
      (good_inner (file_cells c.args.tables.now) c.args.below.now c.requires.inner);
}

pub joins_made-requires-clause-few : goal.joins_made-requires-clause-few
joins_made-requires-clause-few c =
    omega (
      arith,
      c.requires.few,
      few_contents c.args.cell.now,
      few_of net_in (seen c.as_slice.result.now),
      ap length c.in_ok-nets.ensures,
      length-map c.in_ok-nets.nets.items (λ r. r.now),
      ap (λ xs. length (seen xs)) c.as_slice.ensures.value,
      ap length c.in_ok-items.ensures,
      ap length c.as_slice-3.ensures.value,
    )

pub returns : goal.returns
returns c =
    let cells = file_cells c.args.tables.now in
    joins_found (linked_by cells c.args.cell.now c.args.below.now) _ _ _ c.in_ok-made.ensures
    (ap seen c.as_slice-3.ensures.value ∙ (c.in_ok-nets.ensures ∙ ap (filter_map net_in) (ap seen c.as_slice.ensures.value ∙ c.in_ok-items.ensures)))
    (scope_is cells c.args.cell.now c.args.below.now _ c.in_ok-own.ensures
    (c.in_ok-instances.ensures ∙ (c.in_ok-instances_in.ensures ∙ ap (filter_map instance_in) (ap seen c.as_slice-2.ensures.value ∙ c.in_ok-items.ensures))) refl c.requires.port_tables)
