use Rattle.std.proofs.Common.{◌≡◌, ◌-◌, ◌^◌, ◌≤◌, ◌∙◌, ap, sym, length, arith}
use Rattle.std.proofs.lemmas.List.{length-map}
use Rattle.edif_design.specs.References.{all_cells}
use Rattle.edif_design.specs.Tables.{place_of}
use Rattle.edif_resolve.proofs.Bounding.{most_done, most_more}
use Rattle.edif_resolve.proofs.Building.{place_stands}
use Rattle.edif_resolve.proofs.FewParts.{cells_few}
use Rattle.edif_resolve.proofs.most.most_of_file.Goals as goal

pub overflow_cast-number-end : goal.overflow_cast-number-end
overflow_cast-number-end c =
    let e : length c.places-places.result.now ≡ length (all_cells c.args.tabled.now) = sym (length-map c.places-places.result.now place_of) ∙ ap length (c.places-places.ensures ∙ ap all_cells c.tables.ensures) in
    let f : length (all_cells c.args.tabled.now) ≤ 268435456 = cells_few c.args.tabled.now 268435456 c.requires.small in
    omega (arith, e, f)

pub most_at-requires-clause-stands : goal.most_at-requires-clause-stands
most_at-requires-clause-stands c =
    place_stands c.args.tabled.now c.places-places.result.now (c.places-places.ensures ∙ ap all_cells c.tables.ensures) c.loop-number.number c.index-places-number.result (omega arith) c.index-places-number.is

pub loop-number-preserved : goal.loop-number-preserved
loop-number-preserved c =
    most_more c.args.tabled.now c.places-places.result.now (c.places-places.ensures ∙ ap all_cells c.tables.ensures) c.loop-number.number c.index-places-number.result (omega arith) c.index-places-number.is (2 ^ 64 - 1)
    c.loop-number.most c.in_ok-more.more c.saturating_add-most.result c.loop-number.invariant c.in_ok-more.ensures c.saturating_add-most.ensures

pub returns : goal.returns
returns c = most_done c.args.tabled.now c.places-places.result.now (c.places-places.ensures ∙ ap all_cells c.tables.ensures) c.loop-number.number (omega arith) (2 ^ 64 - 1) c.loop-number.most c.loop-number.invariant
