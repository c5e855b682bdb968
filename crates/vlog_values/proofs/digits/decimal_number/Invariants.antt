use Rattle.std.proofs.Common.{◌≡◌, drop, fold}
use Rattle.vlog_values.specs.Bits.{decimal_value}
use Rattle.vlog_values.proofs.Steps.{next_decimal}
use Rattle.vlog_values.proofs.digits.decimal_number.Given as goal

abbrev pub invariant-loop-c : goal.invariant-loop-c
invariant-loop-c l = fold next_decimal l.n (drop l.c-index l.digits) ≡ decimal_value l.digits
