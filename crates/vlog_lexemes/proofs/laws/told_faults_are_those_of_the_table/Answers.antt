use Rattle.vlog_lexemes.proofs.Texts.{told_fault_law}
use Rattle.vlog_lexemes.proofs.laws.told_faults_are_those_of_the_table.Goals as goal

pub returns : goal.returns
returns c = told_fault_law
