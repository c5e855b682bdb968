use Rattle.std.proofs.Common.{◌≡◌, ◌<◌, ◌^◌, drop, fold}
use Rattle.vlog_tokens.specs.Numbers.{decimal_value, next_decimal}
use Rattle.vlog_tokens.proofs.number.decimal_of.Given as goal

abbrev pub invariant-loop-b : goal.invariant-loop-b
invariant-loop-b l = record {
  read : fold next_decimal l.value (drop l.b-index l.text) ≡ decimal_value l.text;
  small : l.value < 2 ^ 128;
}
