use Rattle.std.proofs.Common.{◌≡◌, ◌≤◌, ◌∙◌, ap, sym, length, map, get_or, arith, []}
use Rattle.std.specs.List.{flat_map}
use Rattle.std.proofs.lemmas.List.{length-map}
use Rattle.edif_lookup.specs.Tables.{named}
use Rattle.edif_values.specs.Sizes.{edif_size}
use Rattle.edif_design.specs.Parts.{cells_in, libraries, numbered}
use Rattle.edif_design.specs.References.{all_cells}
use Rattle.edif_design.specs.Tables.{library_ident, place_of, places_from, seen, tables_from}
use Rattle.edif_design.specs.Views.{view_names}
use Rattle.edif_design.proofs.Small.{few_cells, few_libraries}
use Rattle.edif_design.proofs.TableLaws.{tables_hold, views_placed}
use Rattle.edif_design.proofs.tables.FileTables.build.Goals as goal

pub places_of-requires : goal.places_of-requires
places_of-requires c =
    let a : edif_size c.args.file.now ≤ 268435456 = c.requires in
    let b : length (libraries c.args.file.now) ≤ edif_size c.args.file.now = few_libraries c.args.file.now.items in
    let e : length c.as_slice.result.now ≡ length (libraries c.args.file.now) =
    ap length c.as_slice.ensures.value ∙ (sym (length-map c.in_ok-libraries.libraries.items (λ library. library.now)) ∙ ap length c.in_ok-libraries.ensures) in
    omega (arith, a, b, e)

pub library_entries-requires : goal.library_entries-requires
library_entries-requires c =
    let a : edif_size c.args.file.now ≤ 268435456 = c.requires in
    let b : length (libraries c.args.file.now) ≤ edif_size c.args.file.now = few_libraries c.args.file.now.items in
    let e : length c.as_slice-2.result.now ≡ length (libraries c.args.file.now) =
    ap length c.as_slice-2.ensures.value ∙ (sym (length-map c.in_ok-libraries.libraries.items (λ library. library.now)) ∙ ap length c.in_ok-libraries.ensures) in
    omega (arith, a, b, e)

pub cell_tables-requires : goal.cell_tables-requires
cell_tables-requires c =
    let a : edif_size c.args.file.now ≤ 268435456 = c.requires in
    let b : length (flat_map cells_in (libraries c.args.file.now)) ≤ edif_size c.args.file.now = few_cells c.args.file.now.items in
    let e : length (flat_map cells_in (seen c.as_slice-3.result.now)) ≡ length (flat_map cells_in (libraries c.args.file.now)) =
    ap (λ ls. length (flat_map cells_in ls)) (ap seen c.as_slice-3.ensures.value ∙ c.in_ok-libraries.ensures) in
    omega (arith, a, b, e)

pub invariant_of-result : goal.invariant_of-result
invariant_of-result c =
    let places : map place_of c.in_ok-places.places.items ≡ all_cells c.args.file.now = c.in_ok-places.ensures ∙ ap (places_from 0) (ap seen c.as_slice.ensures.value ∙ c.in_ok-libraries.ensures) in
    record {
      places_are = places;
      views_are = c.in_ok-views.ensures ∙ (ap (map (λ place. view_names place.cell.now)) c.as_slice-4.ensures.value ∙ (views_placed c.in_ok-places.places.items ∙ ap (λ ps. map view_names (map (λ place. place.cell) ps)) places));
      libraries_are = c.in_ok-named.ensures ∙ (c.in_ok-entries.ensures ∙ ap (λ ls. named library_ident (numbered ls)) (ap seen c.as_slice-2.ensures.value ∙ c.in_ok-libraries.ensures));
      cells_are = λ library. ap (λ tables. get_or tables library []) (c.in_ok-cells.ensures ∙ ap (tables_from 0) (ap seen c.as_slice-3.ensures.value ∙ c.in_ok-libraries.ensures)) ∙ tables_hold (libraries c.args.file.now) library;
    }
