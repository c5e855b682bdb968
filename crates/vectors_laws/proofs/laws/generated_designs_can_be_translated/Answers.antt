use Rattle.vectors_laws.proofs.Whole.{no_target_rule}
use Rattle.vectors_laws.proofs.laws.generated_designs_can_be_translated.Goals as goal

pub returns : goal.returns
returns c = λ seed cells is_param some small. no_target_rule seed cells some small is_param
