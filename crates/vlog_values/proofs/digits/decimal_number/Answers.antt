use Rattle.std.proofs.Common.{◌+◌, arith, drop, get_or, refl}
use Rattle.vlog_values.specs.Bits.{decimal_value}
use Rattle.vlog_values.proofs.Steps.{decimal_grows, decimal_left, next_decimal}
use Rattle.vlog_values.proofs.digits.decimal_number.Goals as goal

pub loop-c-init : goal.loop-c-init
unfolding decimal_value
loop-c-init c = refl

pub overflow_mul-n : goal.overflow_mul-n
overflow_mul-n c =
    let digits = c.args.digits.now in
    let i = c.loop-c.c-index in
    omega (arith, decimal_grows (next_decimal c.loop-c.n (get_or digits i 0)) (drop (i + 1) digits), decimal_left c.loop-c.n digits i c.loop-c-test.true, c.loop-c.invariant, c.requires.fits)

pub overflow_add-n : goal.overflow_add-n
overflow_add-n c =
    let digits = c.args.digits.now in
    let i = c.loop-c.c-index in
    omega (arith, c.value_of_digit.ensures, decimal_grows (next_decimal c.loop-c.n (get_or digits i 0)) (drop (i + 1) digits), decimal_left c.loop-c.n digits i c.loop-c-test.true, c.loop-c.invariant, c.requires.fits)
