use Rattle.std.proofs.Common.{arith, None}
use Rattle.edif_design.specs.CellRules.{same_node}
use Rattle.edif_rules.specs.Spots.{node_at}
use Rattle.edif_rules.proofs.NetTurns.{any_more}
use Rattle.edif_rules.proofs.joined.add_spots.Goals as goal

pub loop-spot-preserved : goal.loop-spot-preserved
loop-spot-preserved c other =
    any_more c.args.spots.now c.loop-spot.spot-index (record { instance = None; port = 0; bit = 0 }) (omega arith) (same_node other) node_at c.args.taken.now c.loop-spot.taken c.add.new.self (c.loop-spot.invariant other) (c.in_ok-add.ensures.added other)
