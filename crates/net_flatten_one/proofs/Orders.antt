-- a graph has one postorder
use Rattle.std.proofs.Common.{◌≡◌, ℕ, List, [], ◌∷◌, ◌++◌, refl, sym, ap, subst}
use Rattle.net_graph.specs.Graph.{IsPostorder, Visits, VisitsEach, again, first, none, next}
use Rattle.net_hier.proofs.PathLaws.{same_element}

module _ (graph : List (List ℕ)) where
  mutual
    one_visit : {before a b : List ℕ} {number : ℕ} → Visits graph before number a → Visits graph before number b → a ≡ b
    one_visit (again is) (again other) = refl
    one_visit (again is) (first fresh is_list each) = absurd (fresh is)
    one_visit (first fresh is_list each) (again is) = absurd (fresh is)
    one_visit {before = before} {number = number} (first {middle = middle} {numbers = numbers} fresh is_list each) (first {middle = other} {numbers = others} fresh_too is_other each_other) =
        let same : others ≡ numbers = same_element graph number others numbers is_other is_list in
        ap (λ m. m ++ number ∷ []) (one_visit_each each (subst (λ ns. VisitsEach graph before ns other) same each_other))

    one_visit_each : {before a b : List ℕ} {numbers : List ℕ} → VisitsEach graph before numbers a → VisitsEach graph before numbers b → a ≡ b
    one_visit_each none none = refl
    one_visit_each (next {middle = middle} {after = after} {number = number} {rest = rest} one each) (next {middle = other} {after = end} one_other each_other) =
        let same : other ≡ middle = sym (one_visit one one_other) in
        one_visit_each each (subst (λ m. VisitsEach graph m rest end) same each_other)

  pub one_postorder : (start : ℕ) (a b : List ℕ) → IsPostorder graph start a → IsPostorder graph start b → a ≡ b
  one_postorder start a b of_a of_b = one_visit of_a of_b
