use Rattle.std.proofs.Common.{arith, ◌<◌, ap, get_or, length, map, sym}
use Rattle.net_hier.specs.declared.cells.HPort.{HPort}
use Rattle.net_hier.specs.Design.{IsCell}
use Rattle.edif_planning.specs.Numbers.{names_with, old_names}
use Rattle.edif_planning.proofs.ClassLaws.{cell_here}
use Rattle.edif_planning.proofs.HeadLaws.{names_at, wanted_more}
use Rattle.edif_planning.proofs.OrderLaws.{order_there, order_within}
use Rattle.edif_planning.proofs.heads.add_cells.Goals as goal

pub bounds-cells-number : goal.bounds-cells-number
bounds-cells-number c =
    let within : get_or c.order-order.result.now c.loop-number.number-index 0 < length c.args.hier.now.cells =
    order_within c.args.hier.now c.order-order.ensures.valid.valid c.loop-number.number-index _ (order_there c.args.hier.now c.order-order.result.now c.order-order.ensures.order c.loop-number.number-index 0 c.loop-number-test.true) in
    let same = ap length c.cells-cells.ensures.cells in
    omega (arith, within, same)

pub loop-number-preserved : goal.loop-number-preserved
loop-number-preserved c =
    let within : get_or c.order-order.result.now c.loop-number.number-index 0 < length c.args.hier.now.cells =
    order_within c.args.hier.now c.order-order.ensures.valid.valid c.loop-number.number-index _ (order_there c.args.hier.now c.order-order.result.now c.order-order.ensures.order c.loop-number.number-index 0 c.loop-number-test.true) in
    let same = ap length c.cells-cells.ensures.cells in
    let is : IsCell c.args.hier.now.cells (get_or c.order-order.result.now c.loop-number.number-index 0) c.index-cells-number.result =
    cell_here c.args.hier.now.cells c.cells-cells.result.now _ c.index-cells-number.result c.index-cells-number.result c.cells-cells.ensures.cells (omega (arith, within, same)) c.index-cells-number.is in
    λ wanted are. wanted_more (old_names c.args.hier.now.cells) wanted c.order-order.result.now c.loop-number.number-index 0 _ _ (names_with c.index-cells-number.result.name (map (λ (port : HPort). port.name) c.index-cells-number.result.ports)) c.loop-number-test.true
    (sym (names_at c.args.hier.now.cells _ c.index-cells-number.result is)) (c.in_ok-add_cell.ensures _ (c.loop-number.invariant wanted are))
