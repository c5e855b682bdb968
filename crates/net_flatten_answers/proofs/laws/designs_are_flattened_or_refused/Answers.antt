use Rattle.net_flatten_answers.proofs.Whole.{answered_there}
use Rattle.net_flatten_answers.proofs.laws.designs_are_flattened_or_refused.Goals as goal

pub returns : goal.returns
returns c = answered_there
