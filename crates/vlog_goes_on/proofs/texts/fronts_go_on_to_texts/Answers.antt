use Rattle.vlog_goes_on.proofs.Law.{fronts}
use Rattle.vlog_goes_on.proofs.texts.fronts_go_on_to_texts.Goals as goal

pub returns : goal.returns
returns c = fronts
