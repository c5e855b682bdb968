use Rattle.std.proofs.Common.{◌≡◌, ◌<◌, ◌+◌, length, slice_get, Some, arith, subst, get_or}
use Rattle.std.proofs.lemmas.List.{take_all}
use Rattle.std.proofs.lemmas.Option.{slice_get_within, slice_get-get_or}
use Rattle.net_hier.specs.Design.{IsCell}
use Rattle.flat_numbers.specs.FlatCounts.{IsCountBelow, IsCountOf}
use Rattle.flat_numbers.proofs.Counting.{count_first, count_next, count_whole}
use Rattle.flat_numbers.proofs.Reading.{element_read}
use Rattle.flat_numbers.proofs.counts.count_of.Goals as goal

pub loop-instance-init : goal.loop-instance-init
loop-instance-init c = count_first c.args.cells.now c.items-instance-items.result.now (1 + c.saturating_add-own.result) c.saturating_add-count.result (omega (arith, c.saturating_add-count.ensures))

pub bounds-counts-instance : goal.bounds-counts-instance
bounds-counts-instance c =
    let there = element_read c.items-instance-items.result.now c.loop-instance.instance-index c.instance-item.result c.loop-instance-test.true c.instance-item.is in
    let is_cell : IsCell c.args.cells.now c.args.number c.index-cells-number.result = element_read c.args.cells.now c.args.number c.index-cells-number.result c.requires.in_range c.index-cells-number.is in
    let known : IsCountOf c.args.cells.now c.args.counts.now c.instance-item.result.cell = c.requires.below c.index-cells-number.result c.loop-instance.instance-index c.instance-item.result is_cell
    (subst (λ l. slice_get l c.loop-instance.instance-index ≡ Some c.instance-item.result) c.items-instance-items.ensures there) in
    slice_get_within c.args.counts.now c.instance-item.result.cell known.count known.is_there

pub loop-instance-preserved : goal.loop-instance-preserved
loop-instance-preserved c =
    let there : slice_get c.items-instance-items.result.now c.loop-instance.instance-index ≡ Some c.instance-item.result = element_read c.items-instance-items.result.now c.loop-instance.instance-index c.instance-item.result c.loop-instance-test.true c.instance-item.is in
    let is_cell : IsCell c.args.cells.now c.args.number c.index-cells-number.result = element_read c.args.cells.now c.args.number c.index-cells-number.result c.requires.in_range c.index-cells-number.is in
    let known : IsCountOf c.args.cells.now c.args.counts.now c.instance-item.result.cell = c.requires.below c.index-cells-number.result c.loop-instance.instance-index c.instance-item.result is_cell
    (subst (λ l. slice_get l c.loop-instance.instance-index ≡ Some c.instance-item.result) c.items-instance-items.ensures there) in
    let l : c.instance-item.result.cell < length c.args.counts.now = slice_get_within c.args.counts.now c.instance-item.result.cell known.count known.is_there in
    count_next c.args.cells.now c.items-instance-items.result.now c.loop-instance.instance-index c.instance-item.result (1 + c.saturating_add-own.result) c.loop-instance.count c.args.counts.now
    (get_or c.args.counts.now c.instance-item.result.cell 0) c.saturating_add-count-in-loop-instance.result there known (slice_get-get_or c.args.counts.now c.instance-item.result.cell 0 l)
    (omega (arith, c.saturating_add-count-in-loop-instance.ensures)) c.loop-instance.invariant

pub returns : goal.returns
returns c =
    let is_cell : IsCell c.args.cells.now c.args.number c.index-cells-number.result = element_read c.args.cells.now c.args.number c.index-cells-number.result c.requires.in_range c.index-cells-number.is in
    let below : IsCountBelow c.args.cells.now c.items-instance-items.result.now (1 + c.saturating_add-own.result) c.loop-instance.count =
    subst (λ xs. IsCountBelow c.args.cells.now xs (1 + c.saturating_add-own.result) c.loop-instance.count) (take_all c.loop-instance.instance-index c.items-instance-items.result.now c.loop-instance-test.false) c.loop-instance.invariant in
    count_whole c.args.cells.now c.args.number c.index-cells-number.result c.saturating_add-own.result c.loop-instance.count is_cell
    (omega (arith, c.len.ensures, c.bits_of_ports.ensures, c.saturating_add-own.ensures))
    (subst (λ xs. IsCountBelow c.args.cells.now xs (1 + c.saturating_add-own.result) c.loop-instance.count) c.items-instance-items.ensures below)
