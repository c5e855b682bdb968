use Rattle.std.proofs.Common.{refl, sym, ◌∙◌, ap, arith, get_or}
use Rattle.std.specs.Prelude.{◌+◌, ◌*◌}
use Rattle.vlog_values.specs.Bits.{decimal_value}
use Rattle.vlog_values.specs.Spelled.{below_128}
use Rattle.vlog_values.proofs.Limits.{decimal_digit, small_value, too_large}
use Rattle.vlog_values.proofs.digits.is_below_128.Goals as goal

pub loop-c-init : goal.loop-c-init
unfolding decimal_value
loop-c-init c = record { value = refl; small = omega arith }

pub with_digit-requires : goal.with_digit-requires
with_digit-requires c =
    let small = (decimal_digit (get_or c.args.digits.now c.loop-c.c-index 0) (c.requires c.loop-c.c-index 0 c.loop-c-test.true)).small in
    omega (arith, c.value_of_digit.ensures, small)

pub returns-in-None : goal.returns-in-None
returns-in-None c =
    sym (too_large c.loop-c.value c.args.digits.now c.loop-c.c-index c.loop-c-test.true c.loop-c.invariant.value
    (ap (λ d. below_128 (10 * c.loop-c.value + d)) (sym c.value_of_digit.ensures) ∙ sym c.with_digit.ensures ∙ c.in-None.is))

pub returns : goal.returns
returns c = sym (small_value c.loop-c.value c.args.digits.now c.loop-c.c-index c.loop-c-test.false c.loop-c.invariant.value c.loop-c.invariant.small)
