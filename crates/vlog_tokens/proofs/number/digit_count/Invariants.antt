use Rattle.std.proofs.Common.{◌≡◌, ◌≤◌, drop, fold}
use Rattle.vlog_tokens.specs.Numbers.{digit_count, next_count}
use Rattle.vlog_tokens.proofs.number.digit_count.Given as goal

abbrev pub invariant-loop-b : goal.invariant-loop-b
invariant-loop-b l = record {
  counted : fold next_count l.count (drop l.b-index l.text) ≡ digit_count l.text;
  most : l.count ≤ l.b-index;
}
