use Rattle.vectors_laws.proofs.Whole.{none_broken}
use Rattle.vectors_laws.proofs.laws.generated_files_break_no_rule.Goals as goal

pub returns : goal.returns
returns c = none_broken
