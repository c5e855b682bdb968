use Rattle.std.proofs.Common.{◌-◌, ◌+◌, ◌≤◌, Ok, length}
use Rattle.nl_bytes.specs.declared.bytes.TheConstants.{LIMIT}
use Rattle.vlog_tokens.specs.Parts.{Part}
use Rattle.vlog_tokens.specs.Strings.{Parts, string_at}
use Rattle.vlog_tokens.proofs.string.parts.Given as goal

abbrev pub invariant-parts : goal.invariant-parts
invariant-parts g l = record {
  part : Part {X = Unit {0}} (string_at Parts l.fn.value.items) (λ _. string_at Parts l.value.items) l.place l.fn.bytes l.bytes (g.S.Source.supply l.fn.source).left (g.S.Source.supply l.source).left (Ok tt);
  count : (g.S.Source.supply l.fn.source).faults ≤ (g.S.Source.supply l.source).faults;
  short : length l.fn.value.items ≤ 1048576 → length l.value.items ≤ 1048576;
}

abbrev pub decreases-parts : goal.decreases-parts
decreases-parts g l = LIMIT + 1 - l.bytes.place.offset
