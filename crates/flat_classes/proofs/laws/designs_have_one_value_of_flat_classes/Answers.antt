use Rattle.flat_classes.proofs.OneFlat.{one_flat}
use Rattle.flat_classes.proofs.laws.designs_have_one_value_of_flat_classes.Goals as goal

pub returns : goal.returns
returns c = λ names design a b valid of_a of_b. one_flat names design valid a b of_a of_b
