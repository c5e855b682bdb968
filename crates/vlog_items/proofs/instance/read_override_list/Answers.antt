use Rattle.std.proofs.Common.{arith}
use Rattle.readers.proofs.Choices.{loops}
use Rattle.vlog_values.specs.Values.{IsParamSet}
use Rattle.vlog_exprs.specs.Grammar.{list, commas}
use Rattle.vlog_items.proofs.Lists.{room_added, length_added, some_added, first_length, first_added, collects}
use Rattle.vlog_items.proofs.instance.read_override_list.Goals as goal

pub returns-in_err-set-clause-reads : goal.returns-in_err-set-clause-reads
unfolding list commas
returns-in_err-set-clause-reads g c = grind (arith, loops)

pub returns-in_err-add_boxed-clause-reads : goal.returns-in_err-add_boxed-clause-reads
unfolding list commas
returns-in_err-add_boxed-clause-reads g c = grind (arith, loops)

pub loop-sets-init : goal.loop-sets-init
unfolding list commas
loop-sets-init g c = collects (grind (arith, loops)) (first_added c.in_ok-add_boxed.ensures c.empty-sets.ensures IsParamSet c.in_ok-set.ensures.value) (omega (arith, first_length c.in_ok-add_boxed.ensures c.empty-sets.ensures, room_added c.in_ok-add_boxed.ensures, c.in_ok-set.ensures.reads.value.2))

pub returns-in_err-takes-clause-reads : goal.returns-in_err-takes-clause-reads
unfolding list commas
returns-in_err-takes-clause-reads g c = grind (arith, loops)

pub returns-in_err-set-2-clause-reads : goal.returns-in_err-set-2-clause-reads
unfolding list commas
returns-in_err-set-2-clause-reads g c = grind (arith, loops)

pub loop-sets-smaller : goal.loop-sets-smaller
unfolding list commas
loop-sets-smaller g c = grind (arith, loops)

pub loop-sets-preserved : goal.loop-sets-preserved
unfolding list commas
loop-sets-preserved g c = collects (grind (arith, loops)) (some_added c.in_ok-add_boxed-2.ensures IsParamSet c.loop-sets.invariant.good.all c.in_ok-set-2.ensures.value) (omega (arith, length_added c.in_ok-add_boxed-2.ensures, room_added c.in_ok-add_boxed-2.ensures, c.in_ok-takes.ensures.value.2, c.in_ok-set-2.ensures.reads.value.2))

pub returns-in_err-add_boxed-2-clause-reads : goal.returns-in_err-add_boxed-2-clause-reads
unfolding list commas
returns-in_err-add_boxed-2-clause-reads g c = grind (arith, loops)

pub returns-in_err-mark-clause-reads : goal.returns-in_err-mark-clause-reads
unfolding list commas
returns-in_err-mark-clause-reads g c = grind (arith, loops)

pub returns-clause-reads : goal.returns-clause-reads
unfolding list commas
returns-clause-reads g c = grind (arith, loops)
