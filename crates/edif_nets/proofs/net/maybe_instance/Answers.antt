use Rattle.std.proofs.Common.{arith}
use Rattle.edif_nets.proofs.Parts.{form_or_token}
use Rattle.edif_nets.specs.Grammar.{maybe_instance}
use Rattle.edif_nets.proofs.net.maybe_instance.Goals as goal

pub returns-in_err-at_form-clause-reads : goal.returns-in_err-at_form-clause-reads
unfolding maybe_instance
returns-in_err-at_form-clause-reads g c = grind (arith, form_or_token)

pub returns-in_err-begin-clause-reads : goal.returns-in_err-begin-clause-reads
unfolding maybe_instance
returns-in_err-begin-clause-reads g c = grind (arith, form_or_token)

pub returns-then-branch-clause-reads : goal.returns-then-branch-clause-reads
unfolding maybe_instance
returns-then-branch-clause-reads g c = grind (arith, form_or_token)

pub returns-clause-reads : goal.returns-clause-reads
unfolding maybe_instance
returns-clause-reads g c = grind (arith, form_or_token)
