use Rattle.std.proofs.Common.{◌∙◌, sym}
use Rattle.vlog_rules.proofs.Clashes.{repeated_here, repeated_none, repeated_there}
use Rattle.vlog_rules.proofs.repeats.first_in_set.Goals as goal

pub returns-then-not-new : goal.returns-then-not-new
returns-then-not-new c =
    sym (sym c.loop-name.invariant ∙ repeated_here c.loop-name.seen c.args.names.now c.loop-name.name-index _ c.in_ok-new.new c.loop-name-test.true c.in_ok-new.ensures.new c.if-not-new.true)

pub loop-name-preserved : goal.loop-name-preserved
loop-name-preserved c =
    repeated_there c.loop-name.seen _ c.args.names.now c.loop-name.name-index _ c.in_ok-new.new c.loop-name-test.true c.in_ok-new.ensures.new c.if-not-new.false c.in_ok-new.ensures.added ∙ c.loop-name.invariant

pub returns : goal.returns
returns c = sym (sym c.loop-name.invariant ∙ repeated_none c.loop-name.seen c.args.names.now c.loop-name.name-index c.loop-name-test.false)
