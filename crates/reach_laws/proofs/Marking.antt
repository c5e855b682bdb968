-- The marks of a graph are its reach.
use Rattle.std.proofs.Common.{◌≡◌, ℕ, ◌<◌, ◌≤◌, true, List, length, refl, inl, inr, arith}
use Rattle.std.specs.Prelude.{◌↔◌}
use Rattle.std.proofs.lemmas.Bool.{cases_lt}
use Rattle.std.proofs.lemmas.Option.{slice_get_within}
use Rattle.net_graph.specs.Graph.{IsInRange, IsReached}
use Rattle.net_graph.specs.Marks.{IsReachable, itself, below, is_marked, marks_of}
use Rattle.net_graph.proofs.MarkLaws.{length_marks, marked_within, reachable-marked, marked-reachable}
use Rattle.net_graph.proofs.WorkLaws.{reached_by_marks, marked_by_reach, has_above}

module _ (graph : List (List ℕ)) (start : ℕ) where
  -- from a number that is none of the graph nothing else is reached
  alone : length graph ≤ start → (number : ℕ) → IsReachable graph start number → number ≡ start
  alone past number itself = refl
  alone past number (below {outer = outer} r b) =
      let same = alone past outer r in
      let above = has_above graph outer number b in
      let within = slice_get_within graph outer above.numbers above.are_below in
      absurd (omega (arith, past, same, within))

  starts : (number : ℕ) → is_marked (marks_of graph start) number ≡ true → start < length graph
  starts number h = elim (cases_lt start (length graph)) [
    | inl lt ↦ lt
    | inr le ↦ (
        let same = alone le number (reachable-marked graph start number h) in
        let within = marked_within (marks_of graph start) number h in
        let long = length_marks graph start in
        absurd (omega (arith, le, same, within, long)))
  ]

  pub marks_reach : (number : ℕ) → IsInRange graph → (is_marked (marks_of graph start) number ≡ true) ↔ ((start < length graph) × IsReached graph start number)
  marks_reach number in_range = (
    λ h. (starts number h, reached_by_marks graph start number (reachable-marked graph start number h)),
    λ h. marked-reachable graph start h.0 (λ outer inner b. in_range outer inner (has_above graph outer inner b)) number (marked_by_reach graph start number h.1),
  )
