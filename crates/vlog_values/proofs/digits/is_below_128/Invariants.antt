use Rattle.std.proofs.Common.{◌≡◌, ◌<◌, ◌^◌, drop, fold}
use Rattle.vlog_values.specs.Bits.{decimal_value}
use Rattle.vlog_values.proofs.Steps.{next_decimal}
use Rattle.vlog_values.proofs.digits.is_below_128.Given as goal

abbrev pub invariant-loop-c : goal.invariant-loop-c
invariant-loop-c l = record {
  value : fold next_decimal l.value (drop l.c-index l.digits) ≡ decimal_value l.digits;
  small : l.value < 2 ^ 128;
}
