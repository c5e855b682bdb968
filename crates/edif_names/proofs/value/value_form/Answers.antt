use Rattle.std.proofs.Common.{arith}
use Rattle.edif_names.proofs.Parts.{by_keyword}
use Rattle.edif_names.proofs.value.value_form.Goals as goal

-- src/value.rt:42:9
pub returns-then-same_keyword-clause-reads : goal.returns-then-same_keyword-clause-reads
returns-then-same_keyword-clause-reads g c = grind (arith, by_keyword)

-- src/value.rt:45:9
pub returns-then-same_keyword-2-clause-reads : goal.returns-then-same_keyword-2-clause-reads
returns-then-same_keyword-2-clause-reads g c = grind (arith, by_keyword)

-- src/value.rt:48:9
pub returns-then-same_keyword-3-clause-reads : goal.returns-then-same_keyword-3-clause-reads
returns-then-same_keyword-3-clause-reads g c = grind (arith, by_keyword)

-- src/value.rt:32:1
pub returns-clause-reads : goal.returns-clause-reads
returns-clause-reads g c = grind (arith, by_keyword)
