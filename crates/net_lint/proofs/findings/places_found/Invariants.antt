use Rattle.std.proofs.Common.{◌≡◌, filter}
use Rattle.std.specs.Prelude.{slice_index_or}
use Rattle.std.specs.List.{range_with_len}
use Rattle.flat_classes.specs.Groups.{group_at}
use Rattle.net_lint.specs.Groups.{same_finding}
use Rattle.net_lint.specs.declared.findings.Finding.TheVariants.{Driven}
use Rattle.net_lint.proofs.findings.places_found.Given as goal

abbrev pub invariant-loop-place : goal.invariant-loop-place
invariant-loop-place l = l.places.items ≡ filter (λ place. same_finding l.finding (slice_index_or l.findings (group_at l.flat.groups place) Driven)) (range_with_len 0 l.place)
