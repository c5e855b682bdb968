use Rattle.std.proofs.Common.{◌-◌, ◌+◌, ◌≤◌, Ok}
use Rattle.nl_bytes.specs.declared.bytes.TheConstants.{LIMIT}
use Rattle.vlog_tokens.specs.Parts.{Part}
use Rattle.vlog_tokens.specs.Scanning.{scan_at}
use Rattle.vlog_tokens.specs.SoFar.{IsSoFar}
use Rattle.vlog_tokens.proofs.scan.rest.Given as goal

abbrev pub invariant-loop-text : goal.invariant-loop-text
invariant-loop-text g l = record {
  part : Part {X = Unit {0}} (scan_at l.fn.begins l.fn.text.items) (λ _. scan_at l.phase l.text.items) l.place l.fn.bytes l.bytes (g.S.Source.supply l.fn.source).left (g.S.Source.supply l.source).left (Ok tt);
  count : (g.S.Source.supply l.fn.source).faults ≤ (g.S.Source.supply l.source).faults;
  so_far : IsSoFar l.fn.begins l.fn.text.items → IsSoFar l.phase l.text.items;
}

abbrev pub decreases-loop-text : goal.decreases-loop-text
decreases-loop-text g l = LIMIT + 1 - l.bytes.place.offset
