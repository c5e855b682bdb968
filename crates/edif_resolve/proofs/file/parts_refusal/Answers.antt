use Rattle.std.proofs.Common.{◌<◌, ◌≤◌, length, take, arith}
use Rattle.edif_design.specs.FileRules.{cells_before}
use Rattle.edif_design.specs.Parts.{libraries_in}
use Rattle.edif_resolve.proofs.Sizes.{cells_counted, libraries_before}
use Rattle.edif_resolve.proofs.Walking.{passed_none, passed_on}
use Rattle.edif_resolve.proofs.file.parts_refusal.Goals as goal

pub loop-item-init : goal.loop-item-init
loop-item-init c = passed_none c.args.tabled.now c.new.result c.new.ensures

pub pass-requires-clause-few : goal.pass-requires-clause-few
pass-requires-clause-few c =
    let a : length (libraries_in (take c.loop-item.item-index c.args.items.now)) < 268435456 = libraries_before c.args.items.now c.loop-item.item-index 268435456 (omega arith) c.requires in
    let b : cells_before (take c.loop-item.item-index c.args.items.now) ≤ 268435456 = cells_counted c.args.items.now c.loop-item.item-index 268435456 c.requires in
    (omega (arith, a, c.loop-item.invariant.libraries_are), omega (arith, b, c.loop-item.invariant.cells_are))

pub loop-item-preserved : goal.loop-item-preserved
loop-item-preserved c =
    passed_on c.args.tabled.now c.args.items.now c.loop-item.item-index c.item-item.result (omega arith) c.item-item.is c.in_ok-walk.walk (c.in_ok-walk.ensures (take c.loop-item.item-index c.args.items.now) c.loop-item.invariant)
