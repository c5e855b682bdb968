use Rattle.std.proofs.Common.{◌≡◌, ℕ, List, ◌≤◌, ◌+◌, length}
use Rattle.nl_bytes.specs.Bytes.{Uses}
use Rattle.nl_bytes.specs.declared.bytes.TheConstants.{LIMIT}
use Rattle.vlog_tokens.proofs.Strings.{Digits}
use Rattle.vlog_tokens.proofs.string.code.Given as goal

abbrev pub invariant-digits : goal.invariant-digits
invariant-digits g l = record {
  used : List ℕ;
  uses : Uses l.fn.bytes l.bytes (g.S.Source.supply l.fn.source).left (g.S.Source.supply l.source).left used;
  digits : Digits l.begun used l.code l.more;
  both : length used + l.more ≡ 2;
  below : l.code ≤ 255;
  limit : l.fn.bytes.place.offset ≤ LIMIT + 1 → l.bytes.place.offset ≤ LIMIT + 1;
  count : (g.S.Source.supply l.fn.source).faults ≤ (g.S.Source.supply l.source).faults;
}

abbrev pub decreases-digits : goal.decreases-digits
decreases-digits g l = l.more
