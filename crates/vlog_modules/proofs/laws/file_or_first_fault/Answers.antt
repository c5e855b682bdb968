use Rattle.vlog_modules.proofs.AtMostOne.{file_or_fault, file_or_cut, fault_or_cut}
use Rattle.vlog_modules.proofs.laws.file_or_first_fault.Goals as goal

pub returns-clause-reads : goal.returns-clause-reads
returns-clause-reads c = file_or_fault

pub returns-clause-whole : goal.returns-clause-whole
returns-clause-whole c = file_or_cut

pub returns-clause-cut : goal.returns-clause-cut
returns-clause-cut c = fault_or_cut
