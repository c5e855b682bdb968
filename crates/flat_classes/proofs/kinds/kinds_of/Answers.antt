use Rattle.std.proofs.Common.{arith, length, ap, ◌<◌}
use Rattle.net_hier.specs.Design.{IsCell}
use Rattle.net_hier.specs.declared.cells.HCell.{HCell}
use Rattle.net_hier.proofs.PathLaws.{element_there}
use Rattle.flat_classes.proofs.KindLaws.{kinds_next, kinds_whole}
use Rattle.flat_classes.proofs.kinds.kinds_of.Goals as goal

pub loop-number-preserved : goal.loop-number-preserved
loop-number-preserved c =
    let lt : c.loop-number.number < length c.args.hier.now.cells = let e = ap length c.cells-cells.ensures.cells in omega (arith, c.loop-number-test.true, e) in
    let at = element_there c.args.hier.now.cells c.loop-number.number lt in
    let cell : HCell = at.0 in
    let is : IsCell c.args.hier.now.cells c.loop-number.number cell = at.1 in
    kinds_next c.args.constants.now c.args.hier.now.cells c.loop-number.number c.loop-number.links.items c.push.new.self.items c.loop-number.leaves.items c.push-in-loop-number.new.self.items c.loop-number.values.items c.push-in-loop-number-2.new.self.items
    c.in_ok-kind.kind cell is (c.cells-cells.ensures.valid.valid.good_cells c.loop-number.number cell is) c.in_ok-push.ensures.items c.in_ok-push-2.ensures.items c.in_ok-push-3.ensures.items (c.in_ok-kind.ensures cell is) c.loop-number.invariant

pub returns : goal.returns
returns c =
    let e = ap length c.cells-cells.ensures.cells in
    kinds_whole c.args.constants.now c.args.hier.now.cells c.loop-number.number (record { links = c.loop-number.links; leaves = c.loop-number.leaves; constants = c.loop-number.values }) (omega (arith, c.loop-number-test.false, e)) c.loop-number.invariant
