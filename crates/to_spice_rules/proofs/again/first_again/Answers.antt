use Rattle.std.proofs.Common.{◌∙◌, sym}
use Rattle.to_spice_rules.proofs.Alike.{again_here, again_later, again_none, still_folded}
use Rattle.to_spice_rules.proofs.again.first_again.Goals as goal

pub returns-then-not-new : goal.returns-then-not-new
returns-then-not-new c = sym (sym c.loop-name.invariant.1
    ∙ again_here c.loop-name.used c.loop-name.invariant.0 c.args.names.now c.loop-name.name-index _ c.loop-name-test.true c.in_ok-new.new c.in_ok-new.ensures.new c.if-not-new.true)

pub loop-name-preserved : goal.loop-name-preserved
loop-name-preserved c = (
  still_folded c.loop-name.used c.loop-name.invariant.0 c.args.names.now c.loop-name.name-index _ c.loop-name-test.true c.in_ok-new.new c.in_ok-new.ensures.new c.add.new.self c.in_ok-new.ensures.added,
  again_later c.loop-name.used c.loop-name.invariant.0 c.args.names.now c.loop-name.name-index _ c.loop-name-test.true c.in_ok-new.new c.in_ok-new.ensures.new c.if-not-new.false c.add.new.self c.in_ok-new.ensures.added
      ∙ c.loop-name.invariant.1,
)

pub returns : goal.returns
returns c = sym (sym c.loop-name.invariant.1 ∙ again_none c.loop-name.used.names c.args.names.now c.loop-name.name-index c.loop-name-test.false)
