use Rattle.std.proofs.Common.{arith}
use Rattle.readers.proofs.Choices.{choices}
use Rattle.vlog_items.specs.Grammar.{param_type}
use Rattle.vlog_items.proofs.parameter.read_param_type.Goals as goal

pub returns-in_err-kind-clause-reads : goal.returns-in_err-kind-clause-reads
unfolding param_type
returns-in_err-kind-clause-reads g c = grind (arith, choices)

pub returns-in_err-kind-in-None-clause-reads : goal.returns-in_err-kind-in-None-clause-reads
unfolding param_type
returns-in_err-kind-in-None-clause-reads g c = grind (arith, choices)

pub returns-in-Some-clause-reads : goal.returns-in-Some-clause-reads
unfolding param_type
returns-in-Some-clause-reads g c = grind (arith, choices)

pub returns-in_ok-kind-in-None-clause-reads : goal.returns-in_ok-kind-in-None-clause-reads
unfolding param_type
returns-in_ok-kind-in-None-clause-reads g c = grind (arith, choices)
