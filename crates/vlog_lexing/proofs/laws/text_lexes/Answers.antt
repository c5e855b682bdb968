use Rattle.vlog_lexing.proofs.Laying.{text_lexes}
use Rattle.vlog_lexing.proofs.laws.text_lexes.Goals as goal

pub returns : goal.returns
returns c = text_lexes
