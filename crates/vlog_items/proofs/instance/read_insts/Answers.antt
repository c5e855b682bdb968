use Rattle.std.proofs.Common.{arith}
use Rattle.readers.proofs.Choices.{loops}
use Rattle.vlog_values.specs.Values.{IsInstance}
use Rattle.vlog_values.specs.Sizes.{instance_size}
use Rattle.vlog_exprs.specs.Grammar.{list, commas}
use Rattle.vlog_items.proofs.Lists.{room_added, size_added, some_added, first_size, first_added, collects}
use Rattle.vlog_items.proofs.instance.read_insts.Goals as goal

pub returns-in_err-inst-clause-reads : goal.returns-in_err-inst-clause-reads
unfolding list commas
returns-in_err-inst-clause-reads g c = grind (arith, loops)

pub returns-in_err-add_boxed-clause-reads : goal.returns-in_err-add_boxed-clause-reads
unfolding list commas
returns-in_err-add_boxed-clause-reads g c = grind (arith, loops)

pub loop-insts-init : goal.loop-insts-init
unfolding list commas
loop-insts-init g c = collects (grind (arith, loops)) (first_added c.in_ok-add_boxed.ensures c.empty-insts.ensures IsInstance c.in_ok-inst.ensures.value) (omega (arith, first_size c.in_ok-add_boxed.ensures c.empty-insts.ensures instance_size, room_added c.in_ok-add_boxed.ensures, c.in_ok-inst.ensures.size))

pub returns-in_err-takes-clause-reads : goal.returns-in_err-takes-clause-reads
unfolding list commas
returns-in_err-takes-clause-reads g c = grind (arith, loops)

pub returns-in_err-inst-2-clause-reads : goal.returns-in_err-inst-2-clause-reads
unfolding list commas
returns-in_err-inst-2-clause-reads g c = grind (arith, loops)

pub loop-insts-smaller : goal.loop-insts-smaller
unfolding list commas
loop-insts-smaller g c = grind (arith, loops)

pub loop-insts-preserved : goal.loop-insts-preserved
unfolding list commas
loop-insts-preserved g c = collects (grind (arith, loops)) (some_added c.in_ok-add_boxed-2.ensures IsInstance c.loop-insts.invariant.good.all c.in_ok-inst-2.ensures.value) (omega (arith, size_added c.in_ok-add_boxed-2.ensures instance_size, room_added c.in_ok-add_boxed-2.ensures, c.in_ok-takes.ensures.value.2, c.in_ok-inst-2.ensures.size))

pub returns-in_err-add_boxed-2-clause-reads : goal.returns-in_err-add_boxed-2-clause-reads
unfolding list commas
returns-in_err-add_boxed-2-clause-reads g c = grind (arith, loops)

pub returns-in_err-mark-clause-reads : goal.returns-in_err-mark-clause-reads
unfolding list commas
returns-in_err-mark-clause-reads g c = grind (arith, loops)

pub returns-clause-reads : goal.returns-clause-reads
unfolding list commas
returns-clause-reads g c = grind (arith, loops)
