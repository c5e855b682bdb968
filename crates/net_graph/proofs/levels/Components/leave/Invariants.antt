use Rattle.std.proofs.Common.{length}
use Rattle.net_graph.proofs.levels.Components.leave.Given as goal

abbrev pub decreases-loop-low : goal.decreases-loop-low
decreases-loop-low l = length l.self.open.items
