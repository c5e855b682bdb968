use Rattle.std.proofs.Common.{◌-◌, ◌+◌, ◌≤◌, length, Ok}
use Rattle.nl_bytes.specs.declared.bytes.TheConstants.{LIMIT}
use Rattle.edif_tokens.specs.Scan.{ReadsPart}
use Rattle.edif_tokens.specs.Strings.{Parts}
use Rattle.edif_tokens.proofs.string.parts.Given as goal

abbrev pub invariant-parts : goal.invariant-parts
invariant-parts g l = record {
  part : ReadsPart (λ s. Parts) (λ s. Parts) l.place l.place l.fn.bytes l.bytes (g.S.Source.supply l.fn.source).left (g.S.Source.supply l.source).left l.fn.value.items l.value.items (Ok tt);
  short : length l.value.items ≤ 1048576;
  count : (g.S.Source.supply l.fn.source).faults ≤ (g.S.Source.supply l.source).faults;
}

abbrev pub decreases-parts : goal.decreases-parts
decreases-parts g l = LIMIT + 1 - l.bytes.place.offset
