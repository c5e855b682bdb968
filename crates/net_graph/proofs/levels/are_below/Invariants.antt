use Rattle.std.proofs.Common.{◌<◌}
use Rattle.net_graph.specs.Levels.{level_at}
use Rattle.net_graph.proofs.Levelling.{Before}
use Rattle.net_graph.proofs.levels.are_below.Given as goal

abbrev pub invariant-loop-number : goal.invariant-loop-number
invariant-loop-number l = Before (λ number. level_at l.levels number < l.level) l.numbers l.number-index
