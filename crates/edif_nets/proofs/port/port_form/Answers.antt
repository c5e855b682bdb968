use Rattle.std.proofs.Common.{arith}
use Rattle.edif_nets.proofs.Parts.{by_keyword}
use Rattle.edif_nets.proofs.port.port_form.Goals as goal

pub returns-then-same_keyword-clause-reads : goal.returns-then-same_keyword-clause-reads
returns-then-same_keyword-clause-reads g c = grind (arith, by_keyword)

pub returns-in_err-property-clause-reads : goal.returns-in_err-property-clause-reads
returns-in_err-property-clause-reads g c = grind (arith, by_keyword)

pub returns-then-same_keyword-2-clause-reads : goal.returns-then-same_keyword-2-clause-reads
returns-then-same_keyword-2-clause-reads g c = grind (arith, by_keyword)

pub returns-in_err-text-clause-reads : goal.returns-in_err-text-clause-reads
returns-in_err-text-clause-reads g c = grind (arith, by_keyword)

pub returns-then-same_keyword-3-clause-reads : goal.returns-then-same_keyword-3-clause-reads
returns-then-same_keyword-3-clause-reads g c = grind (arith, by_keyword)

pub returns-in_err-note-clause-reads : goal.returns-in_err-note-clause-reads
returns-in_err-note-clause-reads g c = grind (arith, by_keyword)

pub returns-clause-reads : goal.returns-clause-reads
returns-clause-reads g c = grind (arith, by_keyword)
