use Rattle.std.proofs.Common.{arith}
use Rattle.edif_names.proofs.Parts.{by_keyword}
use Rattle.edif_names.proofs.property.tail_form.Goals as goal

pub returns-then-same_keyword-clause-reads : goal.returns-then-same_keyword-clause-reads
returns-then-same_keyword-clause-reads g c = grind (arith, by_keyword)

pub returns-in_err-texts-clause-reads : goal.returns-in_err-texts-clause-reads
returns-in_err-texts-clause-reads g c = grind (arith, by_keyword)

pub returns-clause-reads : goal.returns-clause-reads
returns-clause-reads g c = grind (arith, by_keyword)
