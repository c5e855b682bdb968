use Rattle.vlog_lexemes.proofs.Texts.{cut_law}
use Rattle.vlog_lexemes.proofs.laws.faults_are_where_no_token_stands.Goals as goal

pub returns : goal.returns
returns c = cut_law
