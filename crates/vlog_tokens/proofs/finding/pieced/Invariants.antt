use Rattle.std.proofs.Common.{◌-◌, ◌+◌, ◌≤◌}
use Rattle.nl_bytes.specs.declared.bytes.TheConstants.{LIMIT}
use Rattle.vlog_tokens.specs.Finding.{Passes}
use Rattle.vlog_tokens.proofs.finding.pieced.Given as goal

abbrev pub invariant-items : goal.invariant-items
invariant-items g l = record {
  passes : Passes l.fn.bytes l.bytes (g.S.Source.supply l.fn.source).left (g.S.Source.supply l.source).left;
  count : (g.S.Source.supply l.fn.source).faults ≤ (g.S.Source.supply l.source).faults;
}

abbrev pub decreases-items : goal.decreases-items
decreases-items g l = LIMIT + 1 - l.bytes.place.offset
