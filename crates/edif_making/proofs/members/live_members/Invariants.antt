use Rattle.std.proofs.Common.{map}
use Rattle.net_bits.specs.Classes.{members_of}
use Rattle.edif_plans.specs.Made.{live_below}
use Rattle.edif_making.specs.Members.{AreLaid}
use Rattle.edif_making.proofs.members.live_members.Given as goal

abbrev pub invariant-loop-class : goal.invariant-loop-class
invariant-loop-class l = AreLaid (map (members_of l.fn.classes) (live_below l.cell.nets l.fn.classes l.class)) l.starts.items l.nodes.items
