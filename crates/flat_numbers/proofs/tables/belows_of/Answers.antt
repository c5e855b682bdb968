use Rattle.std.proofs.Common.{◌≡◌, ◌<◌, ◌+◌, length, arith, ap, ◌∙◌, get_or, slice_get, Some}
use Rattle.std.proofs.lemmas.Grind.{get_or_default_zero}
use Rattle.std.proofs.lemmas.Option.{slice_get-get_or}
use Rattle.flat_numbers.specs.Tables.{instances_before}
use Rattle.flat_numbers.specs.declared.spots.Spot.{Spot}
use Rattle.flat_numbers.proofs.Rows.{HasRowPlace, before_few, belows_next, belows_whole, row_place, rows_begin}
use Rattle.flat_numbers.proofs.SpotLaws.{spot_facts}
use Rattle.flat_numbers.proofs.tables.belows_of.Goals as goal

pub index-requires : goal.index-requires
index-requires c =
    let facts = spot_facts c.args.cells.now c.requires.are_spots.0 c.args.spots.now c.requires.are_spots.1 in
    let spot : Spot = get_or c.args.spots.now c.loop-number.number (record { parent = 0; instance = 0; cell = 0 }) in
    let there : slice_get c.args.spots.now c.loop-number.number ≡ Some spot = slice_get-get_or c.args.spots.now c.loop-number.number (record { parent = 0; instance = 0; cell = 0 }) c.loop-number-test.true in
    let pos : 0 < c.loop-number.number = omega (arith, c.loop-number.auto.number) in
    let at : HasRowPlace c.args.cells.now c.args.spots.now spot = row_place c.args.cells.now c.requires.are_spots.0 c.args.spots.now facts c.loop-number.number spot pos there in
    omega (arith, at.above, c.in_ok-starts.ensures.len, c.in_ok-starts.starts.ok)

pub overflow_add-place : goal.overflow_add-place
overflow_add-place c =
    let facts = spot_facts c.args.cells.now c.requires.are_spots.0 c.args.spots.now c.requires.are_spots.1 in
    let spot : Spot = get_or c.args.spots.now c.loop-number.number (record { parent = 0; instance = 0; cell = 0 }) in
    let there : slice_get c.args.spots.now c.loop-number.number ≡ Some spot = slice_get-get_or c.args.spots.now c.loop-number.number (record { parent = 0; instance = 0; cell = 0 }) c.loop-number-test.true in
    let pos : 0 < c.loop-number.number = omega (arith, c.loop-number.auto.number) in
    let at : HasRowPlace c.args.cells.now c.args.spots.now spot = row_place c.args.cells.now c.requires.are_spots.0 c.args.spots.now facts c.loop-number.number spot pos there in
    let from : c.index.result.now ≡ instances_before c.args.cells.now c.args.spots.now spot.parent =
    c.index.ensures ∙ (get_or_default_zero c.in_ok-starts.starts.items spot.parent c.index.result.now (omega (arith, at.above, c.in_ok-starts.ensures.len)) ∙ c.in_ok-starts.ensures.each spot.parent (let l = at.above in omega (arith, l))) in
    let few = before_few c.args.cells.now c.requires.are_spots.0 c.args.spots.now c.requires.are_spots.1 (length c.args.spots.now) (omega arith) in
    omega (arith, from, few, at.total, c.requires.few)

pub index_mut-requires : goal.index_mut-requires
index_mut-requires c =
    let facts = spot_facts c.args.cells.now c.requires.are_spots.0 c.args.spots.now c.requires.are_spots.1 in
    let spot : Spot = get_or c.args.spots.now c.loop-number.number (record { parent = 0; instance = 0; cell = 0 }) in
    let there : slice_get c.args.spots.now c.loop-number.number ≡ Some spot = slice_get-get_or c.args.spots.now c.loop-number.number (record { parent = 0; instance = 0; cell = 0 }) c.loop-number-test.true in
    let pos : 0 < c.loop-number.number = omega (arith, c.loop-number.auto.number) in
    let at : HasRowPlace c.args.cells.now c.args.spots.now spot = row_place c.args.cells.now c.requires.are_spots.0 c.args.spots.now facts c.loop-number.number spot pos there in
    let from : c.index.result.now ≡ instances_before c.args.cells.now c.args.spots.now spot.parent =
    c.index.ensures ∙ (get_or_default_zero c.in_ok-starts.starts.items spot.parent c.index.result.now (omega (arith, at.above, c.in_ok-starts.ensures.len)) ∙ c.in_ok-starts.ensures.each spot.parent (let l = at.above in omega (arith, l))) in
    omega (arith, from, at.total, c.loop-number.invariant.len, c.loop-number.items.ok)

pub loop-number-preserved : goal.loop-number-preserved
loop-number-preserved c =
    let facts = spot_facts c.args.cells.now c.requires.are_spots.0 c.args.spots.now c.requires.are_spots.1 in
    let spot : Spot = get_or c.args.spots.now c.loop-number.number (record { parent = 0; instance = 0; cell = 0 }) in
    let there : slice_get c.args.spots.now c.loop-number.number ≡ Some spot = slice_get-get_or c.args.spots.now c.loop-number.number (record { parent = 0; instance = 0; cell = 0 }) c.loop-number-test.true in
    let pos : 0 < c.loop-number.number = omega (arith, c.loop-number.auto.number) in
    let at : HasRowPlace c.args.cells.now c.args.spots.now spot = row_place c.args.cells.now c.requires.are_spots.0 c.args.spots.now facts c.loop-number.number spot pos there in
    let from : c.index.result.now ≡ instances_before c.args.cells.now c.args.spots.now spot.parent =
    c.index.ensures ∙ (get_or_default_zero c.in_ok-starts.starts.items spot.parent c.index.result.now (omega (arith, at.above, c.in_ok-starts.ensures.len)) ∙ c.in_ok-starts.ensures.each spot.parent (let l = at.above in omega (arith, l))) in
    belows_next c.args.cells.now c.requires.are_spots.0 c.args.spots.now facts c.loop-number.number c.loop-number.items.items spot (c.index.result.now + spot.instance) c.loop-number.invariant pos there (ap (λ n. n + spot.instance) from)

pub invariant_of-result : goal.invariant_of-result
invariant_of-result c = rows_begin c.args.cells.now c.args.spots.now c.in_ok-starts.starts.items (length c.loop-number.items.items) c.in_ok-starts.ensures c.loop-number.invariant.len

pub returns : goal.returns
returns c =
    let facts = spot_facts c.args.cells.now c.requires.are_spots.0 c.args.spots.now c.requires.are_spots.1 in
    belows_whole c.args.cells.now c.requires.are_spots.0 c.args.spots.now facts c.in_ok-starts.starts.items c.loop-number.items.items c.loop-number.number c.in_ok-starts.ensures c.loop-number-test.false c.loop-number.invariant
