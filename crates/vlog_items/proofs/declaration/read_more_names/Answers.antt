use Rattle.std.proofs.Common.{arith}
use Rattle.readers.proofs.Choices.{loops}
use Rattle.vlog_exprs.specs.Grammar.{commas}
use Rattle.vlog_values.specs.Values.{IsName}
use Rattle.vlog_items.proofs.Lists.{room_added, length_added, some_added, collects}
use Rattle.vlog_items.proofs.declaration.read_more_names.Goals as goal

pub loop-names-init : goal.loop-names-init
unfolding commas
loop-names-init g c = collects (grind (arith, loops)) (λ are. are) (omega arith)

pub returns-in_err-takes-clause-reads : goal.returns-in_err-takes-clause-reads
unfolding commas
returns-in_err-takes-clause-reads g c = grind (arith, loops)

pub returns-in_err-name-clause-reads : goal.returns-in_err-name-clause-reads
unfolding commas
returns-in_err-name-clause-reads g c = grind (arith, loops)

pub loop-names-smaller : goal.loop-names-smaller
unfolding commas
loop-names-smaller g c = grind (arith, loops)

pub loop-names-preserved : goal.loop-names-preserved
unfolding commas
loop-names-preserved g c = collects (grind (arith, loops)) (λ are. some_added c.in_ok-add_name.ensures IsName (c.loop-names.invariant.good are).all c.in_ok-name.ensures.value) (omega (arith, length_added c.in_ok-add_name.ensures, room_added c.in_ok-add_name.ensures, c.in_ok-takes.ensures.value.2, c.in_ok-name.ensures.reads.value.2))

pub returns-in_err-add_name-clause-reads : goal.returns-in_err-add_name-clause-reads
unfolding commas
returns-in_err-add_name-clause-reads g c = grind (arith, loops)

pub returns-in_err-mark-clause-reads : goal.returns-in_err-mark-clause-reads
unfolding commas
returns-in_err-mark-clause-reads g c = grind (arith, loops)

pub returns-clause-reads : goal.returns-clause-reads
unfolding commas
returns-clause-reads g c = grind (arith, loops)

pub returns-clause-value : goal.returns-clause-value
returns-clause-value g c = λ are. c.loop-names.invariant.good are
