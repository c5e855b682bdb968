-- A graph in which no number reaches itself has an order.
use Rattle.std.proofs.Common.{◌≡◌, ◌≢◌, ◌⊎◌, inl, inr, ℕ, zero, suc, ◌+◌, ◌<◌, ◌≤◌, ◌==◌, Bool, true, false, List, [], ◌∷◌, ◌++◌, length, slice_get, Some, refl, sym, ap, ◌∙◌, subst, arith}
use Rattle.std.specs.Prelude.{Contains}
use Rattle.std.specs.List.{range_with_len}
use Rattle.std.proofs.lemmas.Bool.{false≢true}
use Rattle.std.proofs.lemmas.Bool.Decides.{Decides-eqb}
use Rattle.std.proofs.lemmas.Map.Made.{is_member-Decides}
use Rattle.std.specs.Set.{is_member}
use Rattle.net_graph.specs.Graph.{IsAbove, IsInRange, IsPostorder, IsReached, ReachesItself, Visits, VisitsEach, again, first, none, next}
use Rattle.net_graph.specs.Walks.{Leads}
use Rattle.net_graph.proofs.ListLaws.{element_there}
use Rattle.net_graph.proofs.OrderLaws.{StandsIn}
use Rattle.net_graph.proofs.WalkLaws.{linked_along, linked_by, linked_itself}

-- a number stands in a list or not
is_known : (xs : List ℕ) (n : ℕ) → Contains xs n ⊎ ¬ Contains xs n
is_known xs n = by (is_member ◌==◌ xs n) refl
  where
    by : (b : Bool) → is_member ◌==◌ xs n ≡ b → Contains xs n ⊎ ¬ Contains xs n
    by true e = inl ((is_member-Decides Decides-eqb xs n).0 e)
    by false e = inr (λ c. false≢true (sym e ∙ (is_member-Decides Decides-eqb xs n).1 c))

first_or_later : (a b : ℕ) → a ≤ b → (a ≡ b) ⊎ (a + 1 ≤ b)
first_or_later a b le = grind arith

-- the list without the item at a place
without : List ℕ → ℕ → List ℕ
without [] i = []
without (x ∷ xs) zero = xs
without (x ∷ xs) (suc i) = x ∷ without xs i

fewer : (xs : List ℕ) (i x : ℕ) → slice_get xs i ≡ Some x → length xs ≡ suc (length (without xs i))
unfolding without
fewer [] i x e = absurd (cc)
fewer (y ∷ xs) zero x e = refl
fewer (y ∷ xs) (suc i) x e = ap suc (fewer xs i x e)

-- another item stands in it
kept : (xs : List ℕ) (i x j y : ℕ) → slice_get xs i ≡ Some x → slice_get xs j ≡ Some y → y ≢ x → StandsIn (without xs i) y
unfolding without
kept [] i x j y e f other = absurd (cc)
kept (z ∷ xs) zero x zero y e f other = absurd (other (let h : Some x ≡ Some y = sym e ∙ f in cc))
kept (z ∷ xs) zero x (suc j) y e f other = record { place = j; is_there = f }
kept (z ∷ xs) (suc i) x zero y e f other = record { place = zero; is_there = f }
kept (z ∷ xs) (suc i) x (suc j) y e f other = let s = kept xs i x j y e f other in record { place = suc s.place; is_there = s.is_there }

module _ (graph : List (List ℕ)) (in_range : IsInRange graph) (acyclic : (number : ℕ) → ¬ ReachesItself graph number) where
  -- from each number only these are reached
  abbrev Covers : List ℕ → ℕ → Type 0
  Covers those number = (k : ℕ) → IsReached graph number k → StandsIn those k

  -- below a number all but that number are reached at most
  covers_below : (those : List ℕ) (number : ℕ) (covers : Covers those number) (inner : ℕ) → IsAbove graph number inner → Covers (without those (covers number (linked_itself (IsAbove graph) number)).place) inner
  covers_below those number covers inner above k reached =
      let own = covers number (linked_itself (IsAbove graph) number) in
      let other = covers k (linked_along (linked_by above) reached) in
      kept those own.place number other.place k own.is_there other.is_there
      (λ same. acyclic number (record { below = inner; first = above; back = subst (IsReached graph inner) same reached }))

  -- from a number of which only these are reached there is a walk, whatever is listed before
  abbrev IsWalked : List ℕ → Type 0
  IsWalked those = (number : ℕ) → number < length graph → Covers those number → (before : List ℕ) → (after : List ℕ) × Visits graph before number after

  -- and so there is one from several numbers
  each : (those : List ℕ) → IsWalked those → (numbers : List ℕ) → ((i inner : ℕ) → slice_get numbers i ≡ Some inner → (inner < length graph) × Covers those inner) → (before : List ℕ)
      → (after : List ℕ) × VisitsEach graph before numbers after
  each those visit [] good before = (before, none)
  each those visit (inner ∷ numbers) good before =
      let here = visit inner (good 0 inner refl).0 (good 0 inner refl).1 before in
      let more = each those visit numbers (λ i. good (suc i)) here.0 in
      (more.0, next here.1 more.1)

  visit : (bound : ℕ) (those : List ℕ) → length those ≤ bound → IsWalked those
  visit zero those le number lt covers before =
      let own = covers number (linked_itself (IsAbove graph) number) in
      absurd (let f = fewer those own.place number own.is_there in omega (arith, le, f))
  visit (suc bound) those le number lt covers before =
      let own = covers number (linked_itself (IsAbove graph) number) in
      let numbers = element_there graph number lt in
      let f = fewer those own.place number own.is_there in
      let all = each (without those own.place) (visit bound (without those own.place) (omega (arith, le, f))) numbers.0
      (λ i inner e. (let above : IsAbove graph number inner = record { numbers = numbers.0; are_below = numbers.1; place = i; is_there = e } in
      (in_range number inner above, covers_below those number covers inner above))) before in
      elim (is_known before number) as (λ _. (after : List ℕ) × Visits graph before number after) [
        | inl known ↦ (before, again known)
        | inr fresh ↦ (all.0 ++ number ∷ [], first fresh numbers.1 all.1)
      ]

  run_there : (start count k : ℕ) → start ≤ k → k < start + count → StandsIn (range_with_len start count) k
  run_there start zero k le lt = absurd (omega (arith, le, lt))
  run_there start (suc count) k le lt = elim (first_or_later start k le) as (λ _. StandsIn (start ∷ range_with_len (start + 1) count) k) [
    | inl same ↦ record { place = 0; is_there = ap Some same }
    | inr later ↦ (let s = run_there (start + 1) count k later (omega (arith, lt)) in record { place = suc s.place; is_there = s.is_there })
  ]

  -- what is reached from a number of the graph is one of its numbers
  leads_within : (start : ℕ) (places : List ℕ) (k : ℕ) → start < length graph → Leads (IsAbove graph) start places k → k < length graph
  leads_within start [] k lt lead = subst (λ n. n < length graph) lead lt
  leads_within start (middle ∷ places) k lt lead = leads_within middle places k (in_range start middle lead.0) lead.1

  -- the order of a walk from the start
  pub has_postorder : (start : ℕ) → start < length graph → (order : List ℕ) × IsPostorder graph start order
  has_postorder start lt =
      visit (length (range_with_len 0 (length graph))) (range_with_len 0 (length graph)) (omega arith) start lt
      (λ k reached. (let within : k < length graph = leads_within start reached.places k lt reached.lead in run_there 0 (length graph) k (omega arith) (omega (arith, within)))) []
