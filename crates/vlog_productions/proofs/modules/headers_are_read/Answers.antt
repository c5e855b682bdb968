use Rattle.vlog_productions.proofs.HeaderTexts.{all_params, all_headers}
use Rattle.vlog_productions.proofs.modules.headers_are_read.Goals as goal

pub returns-clause-params : goal.returns-clause-params
returns-clause-params c = all_params

pub returns-clause-header : goal.returns-clause-header
returns-clause-header c = all_headers
