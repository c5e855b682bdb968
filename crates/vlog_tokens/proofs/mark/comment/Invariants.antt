use Rattle.std.proofs.Common.{◌-◌, ◌+◌, ◌≤◌, false, Ok}
use Rattle.nl_base.specs.declared.place.Place.{Place}
use Rattle.nl_bytes.specs.declared.bytes.TheConstants.{LIMIT}
use Rattle.vlog_tokens.specs.Parts.{Part}
use Rattle.vlog_tokens.specs.Spelling.{comment_at}
use Rattle.vlog_tokens.proofs.mark.comment.Given as goal

abbrev pub invariant-comment : goal.invariant-comment
invariant-comment g l = record {
  part : (p : Place) → Part {X = Unit {0}} (comment_at false) (λ _. comment_at false) p l.fn.bytes l.bytes (g.S.Source.supply l.fn.source).left (g.S.Source.supply l.source).left (Ok tt);
  count : (g.S.Source.supply l.fn.source).faults ≤ (g.S.Source.supply l.source).faults;
}

abbrev pub decreases-comment : goal.decreases-comment
decreases-comment g l = LIMIT + 1 - l.bytes.place.offset
