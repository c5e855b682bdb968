-- A part of a graph under other numbers: what reaches itself there, and the order of a walk.
use Rattle.std.proofs.Common.{◌≡◌, inl, inr, ℕ, zero, suc, Bool, true, List, [], ◌∷◌, ◌++◌, map, slice_get, Some, refl, sym, ap, ◌∙◌, subst, arith}
use Rattle.std.specs.Prelude.{Contains, option_map}
use Rattle.std.proofs.lemmas.List.{map-append}
use Rattle.std.proofs.lemmas.Option.{slice_get-map}
use Rattle.net_graph.specs.Graph.{HasList, IsAbove, IsReached, ReachesItself, Visits, VisitsEach, again, first, none, next}
use Rattle.net_graph.specs.Walks.{Leads}
use Rattle.net_graph.proofs.ListLaws.{same_element}
use Rattle.net_graph.proofs.OrderLaws.{contained, front_or_last}
use Rattle.net_graph.proofs.WalkLaws.{linked_along, linked_by, linked_itself}
use Rattle.edif_resolve.proofs.Clean.{map_get}

-- a number of the other graph is that of a chosen one, which has a list
pub record ComesFromChosen (graph : List (List ℕ)) (chosen : ℕ → Bool) (renumbered : ℕ → ℕ) (number : ℕ) : Type 0 where
  pub old : ℕ
  pub is_chosen : chosen old ≡ true
  pub is_number : renumbered old ≡ number
  pub numbers : List ℕ
  pub are_below : HasList graph old numbers

-- the other graph has the chosen numbers alone, under numbers of their own, and what stands below a chosen one is chosen
pub record IsRenumbered (graph other : List (List ℕ)) (chosen : ℕ → Bool) (renumbered : ℕ → ℕ) : Type 0 where
  pub apart : (n m : ℕ) → chosen n ≡ true → chosen m ≡ true → renumbered n ≡ renumbered m → n ≡ m
  pub closed : (n inner : ℕ) → chosen n ≡ true → IsAbove graph n inner → chosen inner ≡ true
  pub lists : (n : ℕ) (numbers : List ℕ) → chosen n ≡ true → HasList graph n numbers → HasList other (renumbered n) (map renumbered numbers)
  pub comes : (number : ℕ) (numbers : List ℕ) → HasList other number numbers → ComesFromChosen graph chosen renumbered number

stands_there : {A : Type 0} (xs : List A) (i : ℕ) (x : A) → slice_get xs i ≡ Some x → Contains xs x
stands_there [] i x e = absurd cc
stands_there (y ∷ ys) zero x e = let same : y ≡ x = cc in (0, omega arith, same)
stands_there (y ∷ ys) (suc i) x e = let rest = stands_there ys i x e in let lt = rest.1 in (suc rest.0, omega (arith, lt), rest.2)

module _ (graph other : List (List ℕ)) (chosen : ℕ → Bool) (renumbered : ℕ → ℕ) (is : IsRenumbered graph other chosen renumbered) where
  -- ---- what reaches itself

  -- a step down in the graph to a number that has this other one
  record StepsTo (from number : ℕ) : Type 0 where
    inner : ℕ
    step : IsAbove graph from inner
    is_chosen : chosen inner ≡ true
    is_number : renumbered inner ≡ number

  step_back : (n number : ℕ) → chosen n ≡ true → IsAbove other (renumbered n) number → StepsTo n number
  step_back n number fine above =
      let from = is.comes (renumbered n) above.numbers above.are_below in
      let same : from.old ≡ n = is.apart from.old n from.is_chosen fine from.is_number in
      let listed : HasList graph n from.numbers = subst (λ k. HasList graph k from.numbers) same from.are_below in
      let are : above.numbers ≡ map renumbered from.numbers =
      same_element other (renumbered n) above.numbers (map renumbered from.numbers) above.are_below (is.lists n from.numbers fine listed) in
      let found = map_get renumbered from.numbers above.place number (ap (λ ns. slice_get ns above.place) (sym are) ∙ above.is_there) in
      let step : IsAbove graph n found.0 = record { numbers = from.numbers; are_below = listed; place = above.place; is_there = found.1.0 } in
      record { inner = found.0; step = step; is_chosen = is.closed n found.0 fine step; is_number = found.1.1 }

  -- steps down in the graph to a number that has this other one
  record WalksTo (from number : ℕ) : Type 0 where
    end : ℕ
    walk : IsReached graph from end
    is_chosen : chosen end ≡ true
    is_number : renumbered end ≡ number

  walk_back : (n : ℕ) (places : List ℕ) (number : ℕ) → chosen n ≡ true → Leads (IsAbove other) (renumbered n) places number → WalksTo n number
  walk_back n [] number fine lead = record { end = n; walk = linked_itself (IsAbove graph) n; is_chosen = fine; is_number = lead }
  walk_back n (middle ∷ places) number fine lead =
      let step = step_back n middle fine lead.0 in
      let rest = walk_back step.inner places number step.is_chosen (subst (λ k. Leads (IsAbove other) k places number) (sym step.is_number) lead.1) in
      record { end = rest.end; walk = linked_along (linked_by step.step) rest.walk; is_chosen = rest.is_chosen; is_number = rest.is_number }

  -- where no chosen number reaches itself, none of the other graph does
  pub none_reaches : ((n : ℕ) → chosen n ≡ true → ¬ ReachesItself graph n) → (number : ℕ) → ¬ ReachesItself other number
  none_reaches free number reaches =
      let from = is.comes number reaches.first.numbers reaches.first.are_below in
      let step = step_back from.old reaches.below from.is_chosen (subst (λ k. IsAbove other k reaches.below) (sym from.is_number) reaches.first) in
      let rest = walk_back step.inner reaches.back.places number step.is_chosen (subst (λ k. Leads (IsAbove other) k reaches.back.places number) (sym step.is_number) reaches.back.lead) in
      let same : rest.end ≡ from.old = is.apart rest.end from.old rest.is_chosen from.is_chosen (rest.is_number ∙ sym from.is_number) in
      free from.old from.is_chosen (record { below = step.inner; first = step.step; back = subst (IsReached graph step.inner) same rest.walk })

  -- ---- the order of a walk

  abbrev AllChosen : List ℕ → Type 0
  AllChosen numbers = (i n : ℕ) → slice_get numbers i ≡ Some n → chosen n ≡ true

  fresh_still : (before : List ℕ) (number : ℕ) → AllChosen before → chosen number ≡ true → ¬ Contains before number → ¬ Contains (map renumbered before) (renumbered number)
  fresh_still before number all fine fresh known =
      let s = contained (map renumbered before) (renumbered number) known in
      let found = map_get renumbered before s.place (renumbered number) s.is_there in
      fresh (subst (Contains before) (is.apart found.0 number (all s.place found.0 found.1.0) fine found.1.1) (stands_there before s.place found.0 found.1.0))

  known_still : (before : List ℕ) (number : ℕ) → Contains before number → Contains (map renumbered before) (renumbered number)
  known_still before number known =
      let s = contained before number known in
      stands_there (map renumbered before) s.place (renumbered number) (slice_get-map renumbered before s.place ∙ ap (option_map renumbered) s.is_there)

  below_chosen : (n : ℕ) (numbers : List ℕ) → chosen n ≡ true → HasList graph n numbers → AllChosen numbers
  below_chosen n numbers fine listed i inner there = is.closed n inner fine (record { numbers = numbers; are_below = listed; place = i; is_there = there })

  chosen_more : (before : List ℕ) (number : ℕ) → AllChosen before → chosen number ≡ true → AllChosen (before ++ number ∷ [])
  chosen_more before number all fine i n there = elim (front_or_last before number i n there) as (λ _. chosen n ≡ true) [
    | inl f ↦ all i n f
    | inr f ↦ subst (λ k. chosen k ≡ true) f.1 fine
  ]

  mutual
    visits_renumbered : {before after : List ℕ} {number : ℕ} → Visits graph before number after → AllChosen before → chosen number ≡ true
        → Visits other (map renumbered before) (renumbered number) (map renumbered after) × AllChosen after
    visits_renumbered (again {before = before} {number = number} known) all fine = (again (known_still before number known), all)
    visits_renumbered (first {before = before} {middle = middle} {number = number} {numbers = numbers} fresh listed each) all fine =
        let rest = each_renumbered each all (below_chosen number numbers fine listed) in (
          subst (Visits other (map renumbered before) (renumbered number)) (sym (map-append renumbered middle (number ∷ [])))
              (first (fresh_still before number all fine fresh) (is.lists number numbers fine listed) rest.0),
          chosen_more middle number rest.1 fine,
        )

    each_renumbered : {before after : List ℕ} {numbers : List ℕ} → VisitsEach graph before numbers after → AllChosen before → AllChosen numbers
        → VisitsEach other (map renumbered before) (map renumbered numbers) (map renumbered after) × AllChosen after
    each_renumbered none all those = (none, all)
    each_renumbered (next {number = number} one more) all those =
        let here = visits_renumbered one all (those 0 number refl) in
        let rest = each_renumbered more here.1 (λ i n there. those (suc i) n there) in
        (next here.0 rest.0, rest.1)

  -- the order of a walk from a chosen number is that of the walk in the other graph
  pub order_renumbered : (start : ℕ) (order : List ℕ) → chosen start ≡ true → Visits graph [] start order → Visits other [] (renumbered start) (map renumbered order)
  order_renumbered start order fine visits = (visits_renumbered visits (λ i n there. absurd cc) fine).0
