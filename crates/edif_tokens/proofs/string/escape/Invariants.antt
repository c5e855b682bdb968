use Rattle.std.proofs.Common.{◌-◌, ◌+◌, ◌≤◌, length, false, Ok}
use Rattle.nl_bytes.specs.declared.bytes.TheConstants.{LIMIT}
use Rattle.edif_tokens.specs.Scan.{ReadsPart}
use Rattle.edif_tokens.specs.Strings.{Escape}
use Rattle.edif_tokens.proofs.string.escape.Given as goal

abbrev pub invariant-loop-next : goal.invariant-loop-next
invariant-loop-next g l = record {
  part : ReadsPart (λ s. Escape s false) (λ s. Escape s l.coded) l.place l.start l.fn.bytes l.bytes (g.S.Source.supply l.fn.source).left (g.S.Source.supply l.source).left l.fn.value.items l.value.items (Ok tt);
  short : length l.value.items ≤ 1048576;
  count : (g.S.Source.supply l.fn.source).faults ≤ (g.S.Source.supply l.source).faults;
}

abbrev pub decreases-loop-next : goal.decreases-loop-next
decreases-loop-next g l = LIMIT + 1 - l.bytes.place.offset
