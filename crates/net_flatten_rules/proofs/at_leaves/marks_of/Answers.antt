use Rattle.std.proofs.Common.{get_or}
use Rattle.flat_numbers.specs.declared.spots.Spot.{Spot}
use Rattle.net_flatten_rules.proofs.MarkLaws.{mark_set}
use Rattle.net_flatten_rules.proofs.at_leaves.marks_of.Goals as goal

abbrev no_spot : Spot
no_spot = record { parent = 0; instance = 0; cell = 0 }

pub loop-leaf-preserved : goal.loop-leaf-preserved
loop-leaf-preserved c =
    let there = c.requires.leaves c.loop-leaf.leaf-index 0 c.loop-leaf-test.true in
    mark_set c.args.spots.now c.args.leaves.now c.args.count c.loop-leaf.leaf-index no_spot c.loop-leaf.marks.items c.loop-leaf-test.true there c.loop-leaf.invariant
    (c.requires.cells (get_or c.args.leaves.now c.loop-leaf.leaf-index 0) no_spot there)
