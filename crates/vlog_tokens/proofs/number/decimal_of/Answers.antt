use Rattle.std.proofs.Common.{refl, arith, sym, ◌∙◌}
use Rattle.vlog_tokens.specs.Numbers.{decimal_value}
use Rattle.vlog_tokens.proofs.Numbers.{over, whole}
use Rattle.vlog_tokens.proofs.number.decimal_of.Goals as goal

pub loop-b-init : goal.loop-b-init
unfolding decimal_value
loop-b-init c = record { read = refl; small = omega arith }

pub returns-in_default : goal.returns-in_default
returns-in_default c = over _ _ _ _ c.loop-b-test.true (sym c.in_default.is ∙ c.with_byte.ensures) c.loop-b.invariant.read

pub returns : goal.returns
returns c = whole _ _ _ (omega (arith, c.loop-b-test.false)) c.loop-b.invariant.small c.loop-b.invariant.read
