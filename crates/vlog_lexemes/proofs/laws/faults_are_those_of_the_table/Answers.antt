use Rattle.vlog_lexemes.proofs.Texts.{fault_law}
use Rattle.vlog_lexemes.proofs.laws.faults_are_those_of_the_table.Goals as goal

pub returns : goal.returns
returns c = fault_law
