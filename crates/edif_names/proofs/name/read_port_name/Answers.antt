use Rattle.std.proofs.Common.{arith}
use Rattle.edif_names.proofs.Parts.{form_or_token}
use Rattle.edif_names.specs.Grammar.{port_name}
use Rattle.edif_names.proofs.name.read_port_name.Goals as goal

pub returns-in_err-at_form-clause-reads : goal.returns-in_err-at_form-clause-reads
unfolding port_name
returns-in_err-at_form-clause-reads g c = grind (arith, form_or_token)

pub returns-in_err-keyword-clause-reads : goal.returns-in_err-keyword-clause-reads
unfolding port_name
returns-in_err-keyword-clause-reads g c = grind (arith, form_or_token)

pub returns-then-branch-clause-reads : goal.returns-then-branch-clause-reads
unfolding port_name
returns-then-branch-clause-reads g c = grind (arith, form_or_token)

pub returns-in_err-name-clause-reads : goal.returns-in_err-name-clause-reads
unfolding port_name
returns-in_err-name-clause-reads g c = grind (arith, form_or_token)

pub returns-clause-reads : goal.returns-clause-reads
unfolding port_name
returns-clause-reads g c = grind (arith, form_or_token)
