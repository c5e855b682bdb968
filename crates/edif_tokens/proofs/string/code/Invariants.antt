use Rattle.std.proofs.Common.{ℕ, ◌-◌, List, ◌≤◌, ◌+◌}
use Rattle.nl_bytes.specs.Bytes.{Uses}
use Rattle.nl_bytes.specs.declared.bytes.TheConstants.{LIMIT}
use Rattle.edif_tokens.specs.Strings.{Digits}
use Rattle.edif_tokens.proofs.string.code.Given as goal

abbrev pub invariant-loop-next : goal.invariant-loop-next
invariant-loop-next g l = record {
  used : List ℕ;
  uses : Uses l.fn.bytes l.bytes (g.S.Source.supply l.fn.source).left (g.S.Source.supply l.source).left used;
  digits : Digits l.begun used l.code;
  below : l.code ≤ 255;
  count : (g.S.Source.supply l.fn.source).faults ≤ (g.S.Source.supply l.source).faults;
}

abbrev pub decreases-loop-next : goal.decreases-loop-next
decreases-loop-next g l = LIMIT + 1 - l.bytes.place.offset
