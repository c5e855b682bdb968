use Rattle.edif_lexemes.proofs.Texts.{faults_law}
use Rattle.edif_lexemes.proofs.laws.faults_are_where_no_token_stands.Goals as goal

pub returns : goal.returns
returns c = faults_law
