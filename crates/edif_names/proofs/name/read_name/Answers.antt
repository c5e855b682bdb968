use Rattle.std.proofs.Common.{arith}
use Rattle.edif_names.proofs.Parts.{form_or_token}
use Rattle.edif_names.specs.Grammar.{name}
use Rattle.edif_names.proofs.name.read_name.Goals as goal

-- src/name.rt:35:8
pub returns-in_err-at_form-clause-reads : goal.returns-in_err-at_form-clause-reads
unfolding name
returns-in_err-at_form-clause-reads g c = grind (arith, form_or_token)

-- src/name.rt:36:9
pub returns-in_err-begin-clause-reads : goal.returns-in_err-begin-clause-reads
unfolding name
returns-in_err-begin-clause-reads g c = grind (arith, form_or_token)

-- src/name.rt:37:9
pub returns-then-branch-clause-reads : goal.returns-then-branch-clause-reads
unfolding name
returns-then-branch-clause-reads g c = grind (arith, form_or_token)

-- src/name.rt:27:1
pub returns-clause-reads : goal.returns-clause-reads
unfolding name
returns-clause-reads g c = grind (arith, form_or_token)
