use Rattle.net_flatten_same.proofs.Same.{joined_same, unrefused_same}
use Rattle.net_flatten_same.proofs.laws.flattened_designs_are_the_same.Goals as goal

pub returns : goal.returns
returns c = record { unrefused = unrefused_same; joined = joined_same }
