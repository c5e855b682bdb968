use Rattle.std.proofs.Common.{◌≡◌, ◌+◌, ◌<◌, arith, ap, length, sym, ◌∙◌, get_or, slice_get, Some}
use Rattle.std.proofs.lemmas.Option.{slice_get-get_or, slice_get_within}
use Rattle.net_hier.specs.Design.{IsCell}
use Rattle.net_hier.specs.declared.cells.HCell.{HCell}
use Rattle.flat_numbers.specs.declared.spots.Spot.{Spot}
use Rattle.flat_numbers.proofs.Reading.{element_read}
use Rattle.flat_numbers.proofs.Rows.{before_few, before_next, starts_next}
use Rattle.flat_numbers.proofs.SpotLaws.{listed_cells}
use Rattle.flat_numbers.proofs.tables.starts_of.Goals as goal

pub bounds-cells-spot : goal.bounds-cells-spot
bounds-cells-spot c =
    let spot : Spot = get_or c.args.spots.now c.loop-spot.spot-index (record { parent = 0; instance = 0; cell = 0 }) in
    let there : slice_get c.args.spots.now c.loop-spot.spot-index ≡ Some spot = slice_get-get_or c.args.spots.now c.loop-spot.spot-index (record { parent = 0; instance = 0; cell = 0 }) c.loop-spot-test.true in
    let (cell, is) = listed_cells c.requires.are_spots.1 c.loop-spot.spot-index spot there in
    slice_get_within c.args.cells.now spot.cell cell is

pub overflow_cast-before : goal.overflow_cast-before
overflow_cast-before c =
    let spot : Spot = get_or c.args.spots.now c.loop-spot.spot-index (record { parent = 0; instance = 0; cell = 0 }) in
    let there : slice_get c.args.spots.now c.loop-spot.spot-index ≡ Some spot = slice_get-get_or c.args.spots.now c.loop-spot.spot-index (record { parent = 0; instance = 0; cell = 0 }) c.loop-spot-test.true in
    let (cell, is) = listed_cells c.requires.are_spots.1 c.loop-spot.spot-index spot there in
    let lt : spot.cell < length c.args.cells.now = slice_get_within c.args.cells.now spot.cell cell is in
    let read : IsCell c.args.cells.now spot.cell c.index-cells-spot.result = element_read c.args.cells.now spot.cell c.index-cells-spot.result lt c.index-cells-spot.is in
    let n : c.len.result ≡ length c.index-cells-spot.result.instances = c.len.ensures ∙ ap (λ (w : HCell). length w.instances) (sym c.index-cells-spot.is) in
    let next = before_next c.args.cells.now c.args.spots.now c.loop-spot.spot-index spot c.index-cells-spot.result there read in
    let few = before_few c.args.cells.now c.requires.are_spots.0 c.args.spots.now c.requires.are_spots.1 (c.loop-spot.spot-index + 1) (let l = slice_get_within c.args.spots.now c.loop-spot.spot-index spot there in omega (arith, l)) in
    omega (arith, n, next, few, c.requires.few)

pub overflow_add-before : goal.overflow_add-before
overflow_add-before c =
    let spot : Spot = get_or c.args.spots.now c.loop-spot.spot-index (record { parent = 0; instance = 0; cell = 0 }) in
    let there : slice_get c.args.spots.now c.loop-spot.spot-index ≡ Some spot = slice_get-get_or c.args.spots.now c.loop-spot.spot-index (record { parent = 0; instance = 0; cell = 0 }) c.loop-spot-test.true in
    let (cell, is) = listed_cells c.requires.are_spots.1 c.loop-spot.spot-index spot there in
    let lt : spot.cell < length c.args.cells.now = slice_get_within c.args.cells.now spot.cell cell is in
    let read : IsCell c.args.cells.now spot.cell c.index-cells-spot.result = element_read c.args.cells.now spot.cell c.index-cells-spot.result lt c.index-cells-spot.is in
    let n : c.len.result ≡ length c.index-cells-spot.result.instances = c.len.ensures ∙ ap (λ (w : HCell). length w.instances) (sym c.index-cells-spot.is) in
    let next = before_next c.args.cells.now c.args.spots.now c.loop-spot.spot-index spot c.index-cells-spot.result there read in
    let few = before_few c.args.cells.now c.requires.are_spots.0 c.args.spots.now c.requires.are_spots.1 (c.loop-spot.spot-index + 1) (let l = slice_get_within c.args.spots.now c.loop-spot.spot-index spot there in omega (arith, l)) in
    omega (arith, n, next, few, c.requires.few, c.loop-spot.invariant.is)

pub loop-spot-preserved : goal.loop-spot-preserved
loop-spot-preserved c =
    let spot : Spot = get_or c.args.spots.now c.loop-spot.spot-index (record { parent = 0; instance = 0; cell = 0 }) in
    let there : slice_get c.args.spots.now c.loop-spot.spot-index ≡ Some spot = slice_get-get_or c.args.spots.now c.loop-spot.spot-index (record { parent = 0; instance = 0; cell = 0 }) c.loop-spot-test.true in
    let (cell, is) = listed_cells c.requires.are_spots.1 c.loop-spot.spot-index spot there in
    let lt : spot.cell < length c.args.cells.now = slice_get_within c.args.cells.now spot.cell cell is in
    let read : IsCell c.args.cells.now spot.cell c.index-cells-spot.result = element_read c.args.cells.now spot.cell c.index-cells-spot.result lt c.index-cells-spot.is in
    let n : c.len.result ≡ length c.index-cells-spot.result.instances = c.len.ensures ∙ ap (λ (w : HCell). length w.instances) (sym c.index-cells-spot.is) in
    starts_next c.args.cells.now c.args.spots.now c.loop-spot.spot-index c.loop-spot.starts.items c.push.new.self.items c.loop-spot.before (c.loop-spot.before + c.len.result) spot c.index-cells-spot.result there read c.in_ok-push.ensures.items
    (ap (λ k. c.loop-spot.before + k) n) c.loop-spot.invariant
