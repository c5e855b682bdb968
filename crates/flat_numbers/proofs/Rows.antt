-- rows of numbers that lie one behind the other, one for each spot
use Rattle.std.proofs.Common.{◌≡◌, ◌≢◌, ℕ, zero, suc, ◌+◌, ◌-◌, ◌<◌, ◌≤◌, ◌⊎◌, inl, inr, List, [], ◌∷◌, ◌++◌, refl, sym, ◌∙◌, ap, subst, slice_get, get_or, set, take, drop, Some, length, length-append, arith}
use Rattle.std.proofs.Math.ListN.{length-set}
use Rattle.std.proofs.lemmas.List.FromFn.{get_or-map-range_with_len, length-map-range_with_len}
use Rattle.std.proofs.lemmas.Option.{slice_get-get_or, slice_get_within}
use Rattle.net_bits.specs.Parts.{AreStarts, part, parts}
use Rattle.net_hier.specs.Design.{IsCell}
use Rattle.net_hier.specs.declared.cells.HCell.{HCell}
use Rattle.net_hier.specs.declared.cells.HInst.{HInst}
use Rattle.net_hier.proofs.PathLaws.{same_element}
use Rattle.flat_numbers.specs.Numbers.{IsBelow}
use Rattle.flat_numbers.specs.Spots.{Walks, ends, lists, spots_below, top_spot}
use Rattle.flat_numbers.specs.Tables.{AreBelows, AreRowStarts, HasNumber, instances_before, instances_of}
use Rattle.flat_numbers.specs.declared.spots.Spot.{Spot}
use Rattle.flat_numbers.proofs.Reading.{get_set_other, get_set_same}
use Rattle.flat_numbers.proofs.SpotLaws.{HasParent, SpotFacts}

pub last_or_less : (place done : ℕ) → place < done + 1 → (place < done) ⊎ (place ≡ done)
last_or_less place done lt = grind arith

nat_order : (a b : ℕ) → (a < b) ⊎ ((a ≡ b) ⊎ (b < a))
nat_order a b = grind arith

-- ---- how many instances stand before a spot
before_none : (cells : List HCell) (spots : List Spot) → instances_before cells spots 0 ≡ 0
before_none cells [] = refl
before_none cells (spot ∷ spots) = refl

instances_read : (cells : List HCell) (first spot : Spot) (cell : HCell) → first ≡ spot → IsCell cells spot.cell cell → instances_of (slice_get cells first.cell) ≡ length cell.instances
instances_read cells first spot cell e is = ap (λ (s : Spot). instances_of (slice_get cells s.cell)) e ∙ ap instances_of is

pub before_next : (cells : List HCell) (spots : List Spot) (i : ℕ) (spot : Spot) (cell : HCell) → slice_get spots i ≡ Some spot → IsCell cells spot.cell cell → instances_before cells spots (i + 1) ≡ instances_before cells spots i + length cell.instances
before_next cells [] i spot cell e is = absurd (cc)
before_next cells (first ∷ spots) zero spot cell e is =
    let p : first ≡ spot = cc in
    let n : instances_before cells spots 0 ≡ 0 = before_none cells spots in
    let w = instances_read cells first spot cell p is in
    omega (arith, n, w)
before_next cells (first ∷ spots) (suc i) spot cell e is =
    let z : suc i + 1 ≡ suc (i + 1) = omega arith in
    let r : instances_before cells (first ∷ spots) (suc (i + 1)) ≡ instances_before cells (first ∷ spots) (suc i) + length cell.instances = omega (arith, before_next cells spots i spot cell e is) in
    ap (instances_before cells (first ∷ spots)) z ∙ r

before_rises : (cells : List HCell) (spots : List Spot) (i j : ℕ) → i ≤ j → instances_before cells spots i ≤ instances_before cells spots j
before_rises cells [] i j le = omega arith
before_rises cells (first ∷ spots) zero j le = omega arith
before_rises cells (first ∷ spots) (suc i) zero le = absurd (omega (arith, le))
before_rises cells (first ∷ spots) (suc i) (suc j) le = let r = before_rises cells spots i j (omega (arith, le)) in omega (arith, r)

below_length : (parent place : ℕ) (instances : List HInst) → length (spots_below parent place instances) ≡ length instances
below_length parent place [] = refl
below_length parent place (instance ∷ rest) = ap suc (below_length parent (suc place) rest)

-- each spot that is listed waits first, and is that of an instance of a spot that is listed
walk_long : {cells : List HCell} {number : ℕ} {waiting after : List Spot} → Walks cells number waiting after → length after ≡ length waiting + instances_before cells after (length after)
walk_long ends = refl
walk_long {cells = cells} (lists {number = number} {spot = spot} {cell = cell} {waiting = waiting} {after = after} is rest) =
    let r : length after ≡ length (spots_below number 0 cell.instances ++ waiting) + instances_before cells after (length after) = walk_long rest in
    let n : length (spots_below number 0 cell.instances ++ waiting) ≡ length (spots_below number 0 cell.instances) + length waiting = length-append (spots_below number 0 cell.instances) waiting in
    let b = below_length number 0 cell.instances in
    let w : instances_of (slice_get cells spot.cell) ≡ length cell.instances = ap instances_of is in
    omega (arith, r, n, b, w)

-- there are fewer instances than spots
pub before_few : (cells : List HCell) (top : ℕ) (spots : List Spot) → Walks cells 0 (top_spot top ∷ []) spots → (i : ℕ) → i ≤ length spots → instances_before cells spots i ≤ length spots
before_few cells top spots walk i le =
    let all : length spots ≡ 1 + instances_before cells spots (length spots) = walk_long walk in
    let r = before_rises cells spots i (length spots) le in
    omega (arith, all, r)

-- ---- where the rows begin
front_read : (xs : List ℕ) (x i : ℕ) → i < length xs → get_or (xs ++ x ∷ []) i 0 ≡ get_or xs i 0
front_read [] x i lt = absurd (omega (arith, lt))
front_read (y ∷ xs) x zero lt = refl
front_read (y ∷ xs) x (suc i) lt = front_read xs x i (omega (arith, lt))

last_read : (xs : List ℕ) (x : ℕ) → get_or (xs ++ x ∷ []) (length xs) 0 ≡ x
last_read [] x = refl
last_read (y ∷ xs) x = last_read xs x

-- the rows of the first spots begin there, and the next one here
pub record KnowsStarts (cells : List HCell) (spots : List Spot) (done : ℕ) (starts : List ℕ) (before : ℕ) : Type 0 where
  pub len : length starts ≡ done
  pub within : done ≤ length spots
  pub each : (number : ℕ) → number < done → get_or starts number 0 ≡ instances_before cells spots number
  pub is : before ≡ instances_before cells spots done

pub starts_first : (cells : List HCell) (spots : List Spot) (starts : List ℕ) → starts ≡ [] → KnowsStarts cells spots 0 starts 0
starts_first cells spots starts e = record { len = ap length e; within = omega arith; each = λ number lt. absurd (omega (arith, lt)); is = sym (before_none cells spots) }

starts_known : (cells : List HCell) (spots : List Spot) (done : ℕ) (starts more : List ℕ) (before : ℕ) → more ≡ starts ++ before ∷ [] → KnowsStarts cells spots done starts before → (number : ℕ) → number < done + 1 → get_or more number 0 ≡ instances_before cells spots number
starts_known cells spots done starts more before e knows number lt = ap (λ w. get_or w number 0) e ∙ elim (last_or_less number done lt) as (λ _. get_or (starts ++ before ∷ []) number 0 ≡ instances_before cells spots number) [
  | inl l ↦ front_read starts before number (omega (arith, l, knows.len)) ∙ knows.each number l
  | inr p ↦ ap (λ n. get_or (starts ++ before ∷ []) n 0) (p ∙ sym knows.len) ∙ (last_read starts before ∙ (knows.is ∙ ap (instances_before cells spots) (sym p)))
]

pub starts_next : (cells : List HCell) (spots : List Spot) (done : ℕ) (starts more : List ℕ) (before after : ℕ) (spot : Spot) (cell : HCell) → slice_get spots done ≡ Some spot → IsCell cells spot.cell cell → more ≡ starts ++ before ∷ [] → after ≡ before + length cell.instances →
    KnowsStarts cells spots done starts before → KnowsStarts cells spots (done + 1) more after
starts_next cells spots done starts more before after spot cell there is e f knows = record {
  len = ap length e ∙ (length-append starts (before ∷ []) ∙ ap (λ n. n + 1) knows.len);
  within = let lt = slice_get_within spots done spot there in omega (arith, lt);
  each = starts_known cells spots done starts more before e knows;
  is = omega (arith, f, knows.is, before_next cells spots done spot cell there is);
}

pub starts_whole : (cells : List HCell) (spots : List Spot) (done : ℕ) (starts more : List ℕ) (before : ℕ) → length spots ≤ done → more ≡ starts ++ before ∷ [] → KnowsStarts cells spots done starts before → AreRowStarts cells spots more
starts_whole cells spots done starts more before le e knows = record {
  len = let l = ap length e ∙ length-append starts (before ∷ []) in omega (arith, l, knows.len, knows.within, le);
  each = λ number l. starts_known cells spots done starts more before e knows number (omega (arith, l, le));
}

pub rows_begin : (cells : List HCell) (spots : List Spot) (starts : List ℕ) (total : ℕ) → AreRowStarts cells spots starts → total ≡ instances_before cells spots (length spots) → AreStarts starts total
rows_begin cells spots starts total are e = record {
  some = omega (arith, are.len);
  rising = λ i lt.
      let a = are.each i (omega (arith, lt, are.len)) in
      let b = are.each (i + 1) (omega (arith, lt, are.len)) in
      let r = before_rises cells spots i (i + 1) (omega arith) in
      omega (arith, a, b, r);
  within = λ i lt.
      let a = are.each i (omega (arith, lt, are.len)) in
      let r = before_rises cells spots i (length spots) (omega (arith, lt, are.len)) in
      omega (arith, a, r, e);
}

-- ---- the rows are filled
-- the first spots stand in the rows of those above them
pub record KnowsBelows (cells : List HCell) (spots : List Spot) (done : ℕ) (items : List ℕ) : Type 0 where
  pub len : length items ≡ instances_before cells spots (length spots)
  pub known : (outer instance inner : ℕ) → inner < done → IsBelow spots outer instance inner → slice_get items (instances_before cells spots outer + instance) ≡ Some inner

pub belows_first : (cells : List HCell) (spots : List Spot) (items : List ℕ) → length items ≡ instances_before cells spots (length spots) → KnowsBelows cells spots 1 items
belows_first cells spots items len = record { len = len; known = λ outer instance inner lt below. absurd (let n = below.no_top in omega (arith, lt, n)) }

-- the spot has a place in the row of the one above it
pub record HasRowPlace (cells : List HCell) (spots : List Spot) (spot : Spot) : Type 0 where
  pub above : spot.parent < length spots
  pub next : instances_before cells spots spot.parent + spot.instance < instances_before cells spots (spot.parent + 1)
  pub total : instances_before cells spots spot.parent + spot.instance < instances_before cells spots (length spots)

module _ (cells : List HCell) (top : ℕ) (spots : List Spot) (facts : SpotFacts cells top spots) where
  pub row_place : (number : ℕ) (spot : Spot) → 0 < number → slice_get spots number ≡ Some spot → HasRowPlace cells spots spot
  row_place number spot pos is =
      let h : HasParent cells 0 spots number spot = facts.inside number spot pos is in
      let e : h.before ≡ spot.parent = omega (arith, h.of_parent) in
      let there : slice_get spots spot.parent ≡ Some h.above = subst (λ n. slice_get spots n ≡ Some h.above) e h.is_above in
      let lt : spot.parent < length spots = slice_get_within spots spot.parent h.above there in
      let l : spot.instance < length h.cell.instances = slice_get_within h.cell.instances spot.instance h.instance h.is_there in
      let n = before_next cells spots spot.parent h.above h.cell there h.is_cell in
      let r = before_rises cells spots (spot.parent + 1) (length spots) (omega (arith, lt)) in
      record { above = lt; next = omega (arith, l, n); total = omega (arith, l, n, r) }

  -- two spots at one place are below one spot
  place_once : (a b : Spot) → HasRowPlace cells spots a → HasRowPlace cells spots b → instances_before cells spots a.parent + a.instance ≡ instances_before cells spots b.parent + b.instance → (a.parent ≡ b.parent) × (a.instance ≡ b.instance)
  place_once a b ha hb same = elim (nat_order a.parent b.parent) as (λ _. (a.parent ≡ b.parent) × (a.instance ≡ b.instance)) [
    | inl lt ↦ absurd (let r = before_rises cells spots (a.parent + 1) b.parent (omega (arith, lt)) in omega (arith, r, ha.next, same))
    | inr (inl e) ↦ let f : instances_before cells spots a.parent ≡ instances_before cells spots b.parent = ap (instances_before cells spots) e in (e, omega (arith, f, same))
    | inr (inr lt) ↦ absurd (let r = before_rises cells spots (b.parent + 1) a.parent (omega (arith, lt)) in omega (arith, r, hb.next, same))
  ]

  pub belows_next : (done : ℕ) (items : List ℕ) (spot : Spot) (place : ℕ) → KnowsBelows cells spots done items → 0 < done → slice_get spots done ≡ Some spot → place ≡ instances_before cells spots spot.parent + spot.instance →
      KnowsBelows cells spots (done + 1) (set items place done)
  belows_next done items spot place knows pos is e =
      let here : HasRowPlace cells spots spot = row_place done spot pos is in
      record {
        len = length-set items place done ∙ knows.len;
        known = λ outer instance inner l below. elim (last_or_less inner done l) as (λ _. slice_get (set items place done) (instances_before cells spots outer + instance) ≡ Some inner) [
          | inr p ↦
              let q : below.spot ≡ spot = same_element spots done below.spot spot (subst (λ n. slice_get spots n ≡ Some below.spot) p below.is_spot) is in
              let o : spot.parent ≡ outer = ap (λ (s : Spot). s.parent) (sym q) ∙ below.of_parent in
              let i : spot.instance ≡ instance = ap (λ (s : Spot). s.instance) (sym q) ∙ below.of_instance in
              let b : instances_before cells spots spot.parent ≡ instances_before cells spots outer = ap (instances_before cells spots) o in
              let at : place ≡ instances_before cells spots outer + instance = omega (arith, e, b, i) in
              subst (λ n. slice_get (set items place done) n ≡ Some inner) at (get_set_same items place done (omega (arith, e, here.total, knows.len)) ∙ ap Some (sym p))
          | inl less ↦
              let there : HasRowPlace cells spots below.spot = row_place inner below.spot below.no_top below.is_spot in
              let b : instances_before cells spots below.spot.parent ≡ instances_before cells spots outer = ap (instances_before cells spots) below.of_parent in
              let i : below.spot.instance ≡ instance = below.of_instance in
              let other : place ≢ instances_before cells spots outer + instance = λ same.
              let once = place_once spot below.spot here there (omega (arith, e, same, b, i)) in
              let one : done ≡ inner = facts.once done inner spot below.spot pos below.no_top is below.is_spot once.0 once.1 in
              omega (arith, one, less) in
              get_set_other items place (instances_before cells spots outer + instance) done other ∙ knows.known outer instance inner less below
        ];
      }

-- ---- what stands in a row
pub rows_count : (starts items : List ℕ) → length (parts starts items) ≡ length starts - 1
rows_count starts items = length-map-range_with_len (part starts items) 0 (length starts - 1)

rows_read : (starts items : List ℕ) (number : ℕ) → number + 1 < length starts → get_or (parts starts items) number [] ≡ part starts items number
rows_read starts items number h = get_or-map-range_with_len (part starts items) 0 (length starts - 1) number number [] (omega (arith, h)) (omega arith)

pub row_there : (starts items : List ℕ) (number : ℕ) → number + 1 < length starts → slice_get (parts starts items) number ≡ Some (part starts items number)
row_there starts items number h =
    let c = rows_count starts items in
    slice_get-get_or (parts starts items) number [] (omega (arith, h, c)) ∙ ap Some (rows_read starts items number h)

-- a number that the table has stands in the part of its row
pub number_in : (starts items : List ℕ) (rows : List (List ℕ)) (row place number : ℕ) → parts starts items ≡ rows → HasNumber rows row place number → slice_get (part starts items row) place ≡ Some number
number_in starts items rows row place number e h =
    let lt : row < length rows = slice_get_within rows row h.the_row h.is_row in
    let c = rows_count starts items in
    let l = ap length e in
    let there : slice_get rows row ≡ Some (part starts items row) = subst (λ w. slice_get w row ≡ Some (part starts items row)) e (row_there starts items row (omega (arith, lt, c, l))) in
    subst (λ r. slice_get r place ≡ Some number) (same_element rows row h.the_row (part starts items row) h.is_row there) h.is_there

pub taken_there : (xs : List ℕ) (n i x : ℕ) → i < n → slice_get xs i ≡ Some x → slice_get (take n xs) i ≡ Some x
taken_there xs zero i x lt e = absurd (omega (arith, lt))
taken_there [] (suc n) i x lt e = absurd (cc)
taken_there (y ∷ xs) (suc n) zero x lt e = e
taken_there (y ∷ xs) (suc n) (suc i) x lt e = taken_there xs n i x (omega (arith, lt)) e

pub dropped_there : (xs : List ℕ) (n i x : ℕ) → slice_get xs (n + i) ≡ Some x → slice_get (drop n xs) i ≡ Some x
dropped_there xs zero i x e = let z : 0 + i ≡ i = omega arith in subst (λ k. slice_get xs k ≡ Some x) z e
dropped_there [] (suc n) i x e = absurd (cc)
dropped_there (y ∷ xs) (suc n) i x e = let z : suc n + i ≡ suc (n + i) = omega arith in dropped_there xs n i x (subst (λ k. slice_get (y ∷ xs) k ≡ Some x) z e)

pub belows_whole : (cells : List HCell) (top : ℕ) (spots : List Spot) → SpotFacts cells top spots → (starts items : List ℕ) (done : ℕ) → AreRowStarts cells spots starts → length spots ≤ done → KnowsBelows cells spots done items → AreBelows spots (parts starts items)
belows_whole cells top spots facts starts items done are le knows = λ outer instance inner below.
    let lt : inner < length spots = slice_get_within spots inner below.spot below.is_spot in
    let here : HasRowPlace cells spots below.spot = row_place cells top spots facts inner below.spot below.no_top below.is_spot in
    let o : below.spot.parent ≡ outer = below.of_parent in
    let i : below.spot.instance ≡ instance = below.of_instance in
    let b : instances_before cells spots below.spot.parent ≡ instances_before cells spots outer = ap (instances_before cells spots) o in
    let n : instances_before cells spots (below.spot.parent + 1) ≡ instances_before cells spots (outer + 1) = ap (λ k. instances_before cells spots (k + 1)) o in
    let from = are.each outer (omega (arith, here.above, o)) in
    let to = are.each (outer + 1) (omega (arith, here.above, o)) in
    let at : slice_get items (get_or starts outer 0 + instance) ≡ Some inner = subst (λ k. slice_get items (k + instance) ≡ Some inner) (sym from) (knows.known outer instance inner (omega (arith, lt, le)) below) in
    record {
      the_row = part starts items outer;
      is_row = row_there starts items outer (omega (arith, here.above, o, are.len));
      is_there = taken_there (drop (get_or starts outer 0) items) (get_or starts (outer + 1) 0 - get_or starts outer 0) instance inner (omega (arith, from, to, here.next, b, n, i)) (dropped_there items (get_or starts outer 0) instance inner at);
    }
