use Rattle.std.proofs.Common.{◌∙◌, sym}
use Rattle.vlog_rules.proofs.Clashes.{among_here, among_none, among_there}
use Rattle.vlog_rules.proofs.repeats.first_among.Goals as goal

pub returns-then-is_among : goal.returns-then-is_among
returns-then-is_among c = sym (sym c.loop-place.invariant ∙ among_here c.args.names.now c.loop-place.place _ c.loop-place-test.true c.if-is_among.ensures)

pub loop-place-preserved : goal.loop-place-preserved
loop-place-preserved c = among_there c.args.names.now c.loop-place.place _ c.loop-place-test.true c.if-is_among.ensures ∙ c.loop-place.invariant

pub returns : goal.returns
returns c = sym (sym c.loop-place.invariant ∙ among_none c.args.names.now c.loop-place.place c.loop-place-test.false)
