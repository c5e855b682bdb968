use Rattle.vlog_goes_on.proofs.Known.{texts_can_stand}
use Rattle.vlog_goes_on.proofs.texts.tokens_of_texts_can_stand.Goals as goal

pub returns : goal.returns
returns c = texts_can_stand
