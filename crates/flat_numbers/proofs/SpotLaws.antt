-- what the spots of a depth-first walk are
use Rattle.std.proofs.Common.{◌≡◌, ℕ, zero, suc, ◌+◌, ◌<◌, ◌≤◌, ◌⊎◌, inl, inr, List, [], ◌∷◌, ◌++◌, refl, sym, ◌∙◌, ap, subst, slice_get, Some, length, arith}
use Rattle.net_hier.specs.Design.{IsCell}
use Rattle.net_hier.specs.declared.cells.HCell.{HCell}
use Rattle.net_hier.specs.declared.cells.HInst.{HInst}
use Rattle.net_hier.proofs.PathLaws.{same_element}
use Rattle.net_graph.proofs.OrderLaws.{get_front}
use Rattle.flat_numbers.specs.Spots.{spots_below, Walks, ends, lists, top_spot}
use Rattle.flat_numbers.specs.declared.spots.Spot.{Spot}

abbrev pub spot_of : ℕ → ℕ → HInst → Spot
spot_of parent place instance = record { parent = parent; instance = place; cell = instance.cell }

-- an element of a list followed by another is one of the first or one of the second
pub in_either : {A : Type 0} (xs ys : List A) (i : ℕ) (x : A) → slice_get (xs ++ ys) i ≡ Some x → (slice_get xs i ≡ Some x) ⊎ ((j : ℕ) × (i ≡ length xs + j) × (slice_get ys j ≡ Some x))
in_either [] ys i x e = inr (i, omega arith, e)
in_either (z ∷ xs) ys zero x e = inl e
in_either (z ∷ xs) ys (suc i) x e = elim (in_either xs ys i x e) [ inl f ↦ inl f | inr (j, lt, f) ↦ inr (j, omega arith, f) ]

pub get_behind : {A : Type 0} (xs ys : List A) (j : ℕ) (x : A) → slice_get ys j ≡ Some x → slice_get (xs ++ ys) (length xs + j) ≡ Some x
get_behind {A = A} [] ys j x e = let z : length {A = A} [] + j ≡ j = omega arith in subst (λ i. slice_get ys i ≡ Some x) (sym z) e
get_behind (z ∷ xs) ys j x e = let z' : length (z ∷ xs) + j ≡ suc (length xs + j) = omega arith in subst (λ i. slice_get (z ∷ (xs ++ ys)) i ≡ Some x) (sym z') (get_behind xs ys j x e)

-- the spot of an instance stands at the instance's number
pub below_there : (parent place : ℕ) (instances : List HInst) (i : ℕ) (instance : HInst) → slice_get instances i ≡ Some instance → slice_get (spots_below parent place instances) i ≡ Some (spot_of parent (place + i) instance)
below_there parent place [] i instance e = absurd (cc)
below_there parent place (first ∷ rest) zero instance e = let p : first ≡ instance = cc in let q : place ≡ place + 0 = omega arith in ap Some (ap (λ w. spot_of parent w first) q ∙ ap (spot_of parent (place + 0)) p)
below_there parent place (first ∷ rest) (suc i) instance e = let q : suc place + i ≡ place + suc i = omega arith in
    subst (λ w. slice_get (spots_below parent (suc place) rest) i ≡ Some (spot_of parent w instance)) q (below_there parent (suc place) rest i instance e)

-- each of them is that of an instance
pub below_is : (parent place : ℕ) (instances : List HInst) (i : ℕ) (spot : Spot) → slice_get (spots_below parent place instances) i ≡ Some spot →
    (instance : HInst) × (slice_get instances i ≡ Some instance) × (spot_of parent (place + i) instance ≡ spot)
below_is parent place [] i spot e = absurd (cc)
below_is parent place (first ∷ rest) zero spot e = let p : spot_of parent place first ≡ spot = cc in let q : place + 0 ≡ place = omega arith in (first, refl, ap (λ w. spot_of parent w first) q ∙ p)
below_is parent place (first ∷ rest) (suc i) spot e =
    let (instance, there, is) = below_is parent (suc place) rest i spot e in
    let q : place + suc i ≡ suc place + i = omega arith in
    (instance, there, ap (λ w. spot_of parent w instance) q ∙ is)

-- the spot at this place stands below one before it
pub record HasParent (cells : List HCell) (number : ℕ) (spots : List Spot) (place : ℕ) (spot : Spot) : Type 0 where
  pub before : ℕ
  pub is_before : before < place
  pub above : Spot
  pub is_above : slice_get spots before ≡ Some above
  pub of_parent : spot.parent ≡ number + before
  pub cell : HCell
  pub is_cell : IsCell cells above.cell cell
  pub instance : HInst
  pub is_there : slice_get cell.instances spot.instance ≡ Some instance
  pub of_cell : spot.cell ≡ instance.cell

-- no two of the spots are of one instance below one parent
abbrev pub Once : List Spot → Type 0
Once spots = (i j : ℕ) (a b : Spot) → slice_get spots i ≡ Some a → slice_get spots j ≡ Some b → a.parent ≡ b.parent → a.instance ≡ b.instance → i ≡ j

abbrev pub ParentsBelow : ℕ → List Spot → Type 0
ParentsBelow number spots = (i : ℕ) (spot : Spot) → slice_get spots i ≡ Some spot → spot.parent < number

below_once : (parent : ℕ) (instances : List HInst) → Once (spots_below parent 0 instances)
below_once parent instances i j a b e f p q =
    let (x, _, ax) = below_is parent 0 instances i a e in
    let (y, _, by) = below_is parent 0 instances j b f in
    let ai : 0 + i ≡ a.instance = ap (λ w. w.instance) ax in
    let bj : 0 + j ≡ b.instance = ap (λ w. w.instance) by in
    omega (arith, ai, bj, q)

below_parent : (parent : ℕ) (instances : List HInst) (i : ℕ) (a : Spot) → slice_get (spots_below parent 0 instances) i ≡ Some a → a.parent ≡ parent
below_parent parent instances i a e = let (x, _, ax) = below_is parent 0 instances i a e in sym (ap (λ w. w.parent) ax)

module _ (cells : List HCell) where
  -- what waits is listed
  pub waiting_listed : {number : ℕ} {waiting spots : List Spot} → Walks cells number waiting spots → (i : ℕ) (spot : Spot) → slice_get waiting i ≡ Some spot → (place : ℕ) × (slice_get spots place ≡ Some spot)
  waiting_listed ends i spot e = absurd (cc)
  waiting_listed (lists is_cell rest) zero spot e = (0, e)
  waiting_listed (lists {number = number} {cell = cell} {waiting = waiting} is_cell rest) (suc i) spot e =
      let (place, f) = waiting_listed rest (length (spots_below number 0 cell.instances) + i) spot (get_behind (spots_below number 0 cell.instances) waiting i spot e) in
      (suc place, f)

  -- each instance of a listed spot's cell has a spot after it
  pub instance_listed : {number : ℕ} {waiting spots : List Spot} → Walks cells number waiting spots → (place : ℕ) (spot : Spot) (cell : HCell) (i : ℕ) (instance : HInst) →
      slice_get spots place ≡ Some spot → IsCell cells spot.cell cell → slice_get cell.instances i ≡ Some instance → (later : ℕ) × (place < later) × (slice_get spots later ≡ Some (spot_of (number + place) i instance))
  instance_listed ends place spot cell i instance e is_cell there = absurd (cc)
  instance_listed (lists {number = number} {spot = head} {cell = hcell} {waiting = waiting} is_hcell rest) zero spot cell i instance e is_cell there =
      let p : head ≡ spot = cc in
      let q : cell ≡ hcell = same_element cells head.cell cell hcell (subst (λ s. IsCell cells s.cell cell) (sym p) is_cell) is_hcell in
      let there_h : slice_get hcell.instances i ≡ Some instance = subst (λ c. slice_get c.instances i ≡ Some instance) q there in
      let (later, f) = waiting_listed rest i (spot_of number (0 + i) instance) (get_front (spots_below number 0 hcell.instances) waiting i (spot_of number (0 + i) instance) (below_there number 0 hcell.instances i instance there_h)) in
      let n : number ≡ number + 0 = omega arith in
      let z : 0 + i ≡ i = omega arith in
      (suc later, omega arith, f ∙ ap Some (ap (λ w. spot_of number w instance) z ∙ ap (λ w. spot_of w i instance) n))
  instance_listed (lists {number = number} is_hcell rest) (suc place) spot cell i instance e is_cell there =
      let (later, lt, f) = instance_listed rest place spot cell i instance e is_cell there in
      let n : suc number + place ≡ number + suc place = omega arith in
      (suc later, omega arith, f ∙ ap Some (ap (λ w. spot_of w i instance) n))

  from_head : {number : ℕ} (head : Spot) (cell : HCell) (waiting after : List Spot) → IsCell cells head.cell cell → (place : ℕ) (spot : Spot) →
      ((i : ℕ) × (slice_get (spots_below number 0 cell.instances ++ waiting) i ≡ Some spot)) ⊎ HasParent cells (suc number) after place spot →
      ((i : ℕ) × (slice_get waiting i ≡ Some spot)) ⊎ HasParent cells number (head ∷ after) (suc place) spot
  from_head {number = number} head cell waiting after is_cell place spot (inl (i, f)) = elim (in_either (spots_below number 0 cell.instances) waiting i spot f) [
    | inl g ↦
        let (instance, there, is) = below_is number 0 cell.instances i spot g in
        let z : 0 + i ≡ spot.instance = ap (λ w. w.instance) is in
        let z' : i ≡ spot.instance = omega (arith, z) in
        inr (record {
          before = 0;
          is_before = omega arith;
          above = head;
          is_above = refl;
          of_parent = omega (arith, ap (λ w. w.parent) is);
          cell = cell;
          is_cell = is_cell;
          instance = instance;
          is_there = subst (λ w. slice_get cell.instances w ≡ Some instance) z' there;
          of_cell = sym (ap (λ w. w.cell) is);
        })
    | inr (j, _, g) ↦ inl (j, g)
  ]
  from_head {number = number} head cell waiting after is_cell place spot (inr h) = inr (record {
    before = suc h.before;
    is_before = omega (arith, h.is_before);
    above = h.above;
    is_above = h.is_above;
    of_parent = omega (arith, h.of_parent);
    cell = h.cell;
    is_cell = h.is_cell;
    instance = h.instance;
    is_there = h.is_there;
    of_cell = h.of_cell;
  })

  -- each listed spot waited, or stands below one before it
  pub listed_from : {number : ℕ} {waiting spots : List Spot} → Walks cells number waiting spots → (place : ℕ) (spot : Spot) → slice_get spots place ≡ Some spot →
      ((i : ℕ) × (slice_get waiting i ≡ Some spot)) ⊎ HasParent cells number spots place spot
  listed_from ends place spot e = absurd (cc)
  listed_from (lists is_cell rest) zero spot e = inl (0, e)
  listed_from (lists {spot = head} {cell = cell} {waiting = waiting} {after = after} is_cell rest) (suc place) spot e =
      elim (from_head head cell waiting after is_cell place spot (listed_from rest place spot e)) [ inl (i, f) ↦ inl (suc i, f) | inr h ↦ inr h ]

  parent_later : {number : ℕ} {waiting spots : List Spot} → Walks cells number waiting spots → (place : ℕ) (spot : Spot) → slice_get spots place ≡ Some spot →
      ((i : ℕ) × (slice_get waiting i ≡ Some spot)) ⊎ (number ≤ spot.parent)
  parent_later walk place spot e = elim (listed_from walk place spot e) [ inl w ↦ inl w | inr h ↦ inr (omega (arith, h.of_parent)) ]

  -- the head is listed once
  head_once : {number : ℕ} (waiting : List Spot) {spots : List Spot} (head : Spot) (cell : HCell) → Once (head ∷ waiting) → head.parent < number → Walks cells (suc number) (spots_below number 0 cell.instances ++ waiting) spots →
      (place : ℕ) (spot : Spot) → slice_get spots place ≡ Some spot → head.parent ≡ spot.parent → head.instance ≡ spot.instance → ⊥
  head_once {number = number} waiting head cell once less rest place spot e p q = elim (parent_later rest place spot e) [
    | inl (i, f) ↦ elim (in_either (spots_below number 0 cell.instances) waiting i spot f) [
      | inl g ↦ omega (arith, less, p, below_parent number cell.instances i spot g)
      | inr (j, _, g) ↦ let z : zero ≡ suc j = once 0 (suc j) head spot refl g p q in omega (arith, z)
    ]
    | inr h ↦ omega (arith, less, p, h)
  ]

  waiting_once : (number : ℕ) (waiting : List Spot) (cell : HCell) → Once waiting → ParentsBelow number waiting → Once (spots_below number 0 cell.instances ++ waiting)
  waiting_once number waiting cell once less i j a b e f p q = elim (in_either (spots_below number 0 cell.instances) waiting i a e) [
    | inl ea ↦ elim (in_either (spots_below number 0 cell.instances) waiting j b f) [
      | inl fb ↦ below_once number cell.instances i j a b ea fb p q
      | inr (k, _, fb) ↦ absurd (omega (arith, p, below_parent number cell.instances i a ea, less k b fb))
    ]
    | inr (k, ik, ea) ↦ elim (in_either (spots_below number 0 cell.instances) waiting j b f) [
      | inl fb ↦ absurd (omega (arith, p, below_parent number cell.instances j b fb, less k a ea))
      | inr (l, jl, fb) ↦ let z : k ≡ l = once k l a b ea fb p q in omega (arith, z, ik, jl)
    ]
  ]

  waiting_below : (number : ℕ) (waiting : List Spot) (cell : HCell) → ParentsBelow number waiting → ParentsBelow (suc number) (spots_below number 0 cell.instances ++ waiting)
  waiting_below number waiting cell less i spot e = elim (in_either (spots_below number 0 cell.instances) waiting i spot e) [
    | inl f ↦ omega (arith, below_parent number cell.instances i spot f)
    | inr (j, _, f) ↦ omega (arith, less j spot f)
  ]

  pub listed_once : {number : ℕ} {waiting spots : List Spot} → Walks cells number waiting spots → Once waiting → ParentsBelow number waiting → Once spots
  listed_once ends once less i j a b e f p q = absurd (cc)
  listed_once (lists is_cell rest) once less zero zero a b e f p q = refl
  listed_once (lists {spot = head} {cell = cell} {waiting = waiting} is_cell rest) once less zero (suc j) a b e f p q =
      let h : head ≡ a = cc in
      absurd (head_once waiting head cell once (less 0 head refl) rest j b f (ap (λ w. w.parent) h ∙ p) (ap (λ w. w.instance) h ∙ q))
  listed_once (lists {spot = head} {cell = cell} {waiting = waiting} is_cell rest) once less (suc i) zero a b e f p q =
      let h : head ≡ b = cc in
      absurd (head_once waiting head cell once (less 0 head refl) rest i a e (ap (λ w. w.parent) h ∙ sym p) (ap (λ w. w.instance) h ∙ sym q))
  listed_once (lists {number = number} {cell = cell} {waiting = waiting} is_cell rest) once less (suc i) (suc j) a b e f p q =
      let o : Once waiting = λ k l c d g h r s. let z : suc k ≡ suc l = once (suc k) (suc l) c d g h r s in omega (arith, z) in
      let ps : ParentsBelow number waiting = λ k c g. less (suc k) c g in
      ap suc (listed_once rest (waiting_once number waiting cell o ps) (waiting_below number waiting cell ps) i j a b e f p q)

-- what is known of the spots of a design
pub record SpotFacts (cells : List HCell) (top : ℕ) (spots : List Spot) : Type 0 where
  pub first : slice_get spots 0 ≡ Some (top_spot top)
  pub inside : (place : ℕ) (spot : Spot) → 0 < place → slice_get spots place ≡ Some spot → HasParent cells 0 spots place spot
  pub each : (place : ℕ) (spot : Spot) (cell : HCell) (i : ℕ) (instance : HInst) → slice_get spots place ≡ Some spot → IsCell cells spot.cell cell → slice_get cell.instances i ≡ Some instance →
      (later : ℕ) × (place < later) × (slice_get spots later ≡ Some (spot_of place i instance))
  pub once : (i j : ℕ) (a b : Spot) → 0 < i → 0 < j → slice_get spots i ≡ Some a → slice_get spots j ≡ Some b → a.parent ≡ b.parent → a.instance ≡ b.instance → i ≡ j

-- the walk from the top alone lists the top first, and then what stands below it
pub record FromTop (cells : List HCell) (top : ℕ) (spots : List Spot) : Type 0 where
  pub cell : HCell
  pub is_cell : IsCell cells top cell
  pub rest : List Spot
  pub are : spots ≡ top_spot top ∷ rest
  pub below : Walks cells 1 (spots_below 0 0 cell.instances ++ []) rest

module _ (cells : List HCell) (top : ℕ) where
  from_walk : {number : ℕ} {waiting spots : List Spot} → Walks cells number waiting spots → number ≡ 0 → waiting ≡ top_spot top ∷ [] → FromTop cells top spots
  from_walk ends n e = absurd (cc)
  from_walk (lists {number = number} {spot = spot} {cell = cell} {waiting = waiting} {after = after} is_cell rest) n e =
      let p : spot ≡ top_spot top = cc in
      let q : waiting ≡ [] = cc in
      record {
        cell = cell;
        is_cell = subst (λ s. IsCell cells s.cell cell) p is_cell;
        rest = after;
        are = ap (λ s. s ∷ after) p;
        below = subst (λ m. Walks cells (suc m) (spots_below m 0 cell.instances ++ []) after) n (subst (λ w. Walks cells (suc number) (spots_below number 0 cell.instances ++ w) after) q rest);
      }

  module _ (cell : HCell) (is_cell : IsCell cells top cell) (rest : List Spot) (below : Walks cells 1 (spots_below 0 0 cell.instances ++ []) rest) where
    rest_once : Once rest
    rest_once = listed_once cells below (waiting_once cells 0 [] cell (λ i j a b e f p q. absurd (cc)) (λ i a e. absurd (cc))) (waiting_below cells 0 [] cell (λ i a e. absurd (cc)))

    whole_once : (i j : ℕ) (a b : Spot) → 0 < i → 0 < j → slice_get (top_spot top ∷ rest) i ≡ Some a → slice_get (top_spot top ∷ rest) j ≡ Some b → a.parent ≡ b.parent → a.instance ≡ b.instance → i ≡ j
    whole_once zero j a b pi pj e f p q = absurd (omega arith)
    whole_once (suc i) zero a b pi pj e f p q = absurd (omega arith)
    whole_once (suc i) (suc j) a b pi pj e f p q = ap suc (rest_once i j a b e f p q)

    whole_inside : (place : ℕ) (spot : Spot) → 0 < place → slice_get (top_spot top ∷ rest) place ≡ Some spot → HasParent cells 0 (top_spot top ∷ rest) place spot
    whole_inside zero spot pos e = absurd (omega arith)
    whole_inside (suc place) spot pos e = elim (from_head cells (top_spot top) cell [] rest is_cell place spot (listed_from cells below place spot e)) [ inl (i, f) ↦ absurd (cc) | inr h ↦ h ]

  pub spot_facts : (spots : List Spot) → Walks cells 0 (top_spot top ∷ []) spots → SpotFacts cells top spots
  spot_facts spots walk =
      let t : FromTop cells top spots = from_walk walk refl refl in
      let facts : SpotFacts cells top (top_spot top ∷ t.rest) = record {
        first = refl;
        inside = whole_inside t.cell t.is_cell t.rest t.below;
        each = λ place spot c i instance e is_cell there. let z : 0 + place ≡ place = omega arith in
            subst (λ w. (later : ℕ) × (place < later) × (slice_get (top_spot top ∷ t.rest) later ≡ Some (spot_of w i instance))) z
            (instance_listed cells (subst (Walks cells 0 (top_spot top ∷ [])) t.are walk) place spot c i instance e is_cell there);
        once = whole_once t.cell t.is_cell t.rest t.below;
      } in
      subst (SpotFacts cells top) (sym t.are) facts

-- each listed spot has a cell
pub listed_cells : {cells : List HCell} {number : ℕ} {waiting spots : List Spot} → Walks cells number waiting spots → (place : ℕ) (spot : Spot) → slice_get spots place ≡ Some spot → (cell : HCell) × IsCell cells spot.cell cell
listed_cells ends place spot e = absurd (cc)
listed_cells {cells = cells} (lists {spot = head} {cell = cell} is_cell rest) zero spot e = let p : head ≡ spot = cc in (cell, subst (λ (s : Spot). IsCell cells s.cell cell) p is_cell)
listed_cells (lists is_cell rest) (suc place) spot e = listed_cells rest place spot e
