use Rattle.std.proofs.Common.{arith}
use Rattle.readers.proofs.Reading.{sequences}
use Rattle.vlog_exprs.specs.Grammar.{list}
use Rattle.vlog_values.specs.Values.{IsName}
use Rattle.vlog_items.proofs.Lists.{one_length, one_made}
use Rattle.vlog_items.proofs.declaration.read_names.Goals as goal

pub returns-in_err-first-clause-reads : goal.returns-in_err-first-clause-reads
unfolding list
returns-in_err-first-clause-reads g c = grind (arith, sequences)

pub returns-in_err-names-clause-reads : goal.returns-in_err-names-clause-reads
unfolding list
returns-in_err-names-clause-reads g c = grind (arith, sequences)

pub returns-clause-reads : goal.returns-clause-reads
unfolding list
returns-clause-reads g c = grind (arith, sequences)

pub returns-clause-value : goal.returns-clause-value
returns-clause-value g c = c.in_ok-names.ensures.value (one_made c.one.ensures IsName c.in_ok-first.ensures.value)

pub returns-clause-size : goal.returns-clause-size
returns-clause-size g c = omega (arith, one_length c.one.ensures, c.in_ok-first.ensures.reads.value.2, c.in_ok-names.ensures.size)
