use Rattle.flat_classes.proofs.FlatSumLaws.{count_is, is_count}
use Rattle.flat_classes.proofs.laws.designs_have_one_flat_count.Goals as goal

pub returns : goal.returns
returns c = λ design count valid. (count_is design valid count, is_count design valid count)
