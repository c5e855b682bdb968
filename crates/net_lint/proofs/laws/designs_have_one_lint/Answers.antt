use Rattle.net_lint.proofs.OneLint.{one_lint}
use Rattle.net_lint.proofs.laws.designs_have_one_lint.Goals as goal

pub returns : goal.returns
returns c = λ names design a b valid of_a of_b. one_lint names design valid a b of_a of_b
