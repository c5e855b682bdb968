use Rattle.std.proofs.Common.{arith}
use Rattle.edif_names.proofs.Parts.{form_or_token}
use Rattle.edif_names.specs.Grammar.{scaled}
use Rattle.edif_names.proofs.number.read_scaled.Goals as goal

-- src/number.rt:21:8
pub returns-in_err-at_form-clause-reads : goal.returns-in_err-at_form-clause-reads
unfolding scaled
returns-in_err-at_form-clause-reads g c = grind (arith, form_or_token)

-- src/number.rt:22:9
pub returns-in_err-begin-clause-reads : goal.returns-in_err-begin-clause-reads
unfolding scaled
returns-in_err-begin-clause-reads g c = grind (arith, form_or_token)

-- src/number.rt:23:9
pub returns-then-branch-clause-reads : goal.returns-then-branch-clause-reads
unfolding scaled
returns-then-branch-clause-reads g c = grind (arith, form_or_token)

-- src/number.rt:13:1
pub returns-clause-reads : goal.returns-clause-reads
unfolding scaled
returns-clause-reads g c = grind (arith, form_or_token)
