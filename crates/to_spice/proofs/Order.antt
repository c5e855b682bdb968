-- Each number of the order of a design is that of a cell.
use Rattle.std.proofs.Common.{◌≡◌, ℕ, ◌<◌, inl, inr, List, Some, length, slice_get, get_or, sym, ◌∙◌, ap, arith, subst}
use Rattle.std.proofs.lemmas.List.{length-map}
use Rattle.std.proofs.lemmas.Option.{slice_get-get_or, slice_get_within}
use Rattle.net_graph.specs.Graph.{Visits, VisitsEach, again, first, next, none}
use Rattle.net_graph.proofs.OrderLaws.{front_or_last}
use Rattle.net_hier.specs.Design.{Design, below_of, cells_below}
use Rattle.net_hier.specs.Valid.{IsValid}

-- each number of the list is one of the graph
abbrev AreWithin : List (List ℕ) → List ℕ → Type 0
AreWithin graph numbers = (place number : ℕ) → slice_get numbers place ≡ Some number → number < length graph

module _ (graph : List (List ℕ)) where
  mutual
    visit_within : {before after : List ℕ} {number : ℕ} → Visits graph before number after → AreWithin graph before → AreWithin graph after
    visit_within (again h) all place other e = all place other e
    visit_within (first {middle = middle} {number = number} {numbers = numbers} fresh is_list each) all place other e = elim (front_or_last middle number place other e) as (λ _. other < length graph) [
      | inl f ↦ each_within each all place other f
      | inr f ↦ subst (λ m. m < length graph) f.1 (slice_get_within graph number numbers is_list)
    ]

    each_within : {before after : List ℕ} {numbers : List ℕ} → VisitsEach graph before numbers after → AreWithin graph before → AreWithin graph after
    each_within none all place other e = all place other e
    each_within (next one rest) all place other e = each_within rest (λ i n f. visit_within one all i n f) place other e

-- a number of the order is that of a cell
pub number_there : (design : Design) → IsValid design → (numbers : List ℕ) (i d : ℕ) → numbers ≡ design.order → i < length numbers → get_or numbers i d < length design.cells
number_there design valid numbers i d e h =
    let lt = visit_within (cells_below design.cells) valid.postorder (λ place number f. absurd cc) i (get_or numbers i d) (ap (λ l. slice_get l i) (sym e) ∙ slice_get-get_or numbers i d h) in
    let long = length-map design.cells below_of in
    omega (arith, lt, long)
