-- labels of a forest: what halving a way keeps, and what joining two roots makes of them
use Rattle.std.proofs.Common.{◌≡◌, ◌≢◌, ℕ, zero, suc, ◌+◌, ◌<◌, ◌≤◌, ◌⊎◌, inl, inr, List, [], ◌∷◌, ◌++◌, refl, sym, ◌∙◌, ap, subst, subst₂, set, get_or, length, map, take, drop, cond, ◌==◌, arith}
use Rattle.std.proofs.lemmas.List.{append-nil, drop_all, length-map, length-set, take_all}
use Rattle.std.specs.List.{range_with_len}
use Rattle.std.proofs.lemmas.List.FromFn.{length-range_with_len}
use Rattle.std.proofs.lemmas.List.Elements.{Contains-append_left, Contains-push, Contains-push_cases}
use Rattle.net_graph.specs.Walks.{IsLinked}
use Rattle.net_graph.proofs.WalkLaws.{linked_alone, linked_along, linked_back, linked_by, linked_itself, linked_map}
use Rattle.flat_numbers.specs.declared.joins.NumberJoin.{NumberJoin}
use Rattle.flat_numbers.specs.Forest.{HasLabels, IsLinkedUp, parent}
use Rattle.flat_numbers.specs.Linked.{AreAlike, AreLabels, HasJoin, label}
use Rattle.flat_numbers.proofs.NumberLaws.{linked_keeps}

pub same_or_other : (a b : ℕ) → (a ≡ b) ⊎ (a ≢ b)
same_or_other a b = elim (order a b) [ inl lt ↦ inr (λ e. omega arith) | inr (inl e) ↦ inl e | inr (inr lt) ↦ inr (λ e. omega arith) ]
  where
    order : (a b : ℕ) → (a < b) ⊎ ((a ≡ b) ⊎ (b < a))
    order a b = grind arith

pub strictly : (a b : ℕ) → a ≤ b → a ≢ b → a < b
strictly a b le differ = elim (order a b) as (λ _. a < b) [ inl lt ↦ lt | inr (inl e) ↦ absurd (differ e) | inr (inr lt) ↦ absurd (omega arith) ]
  where
    order : (a b : ℕ) → (a < b) ⊎ ((a ≡ b) ⊎ (b < a))
    order a b = grind arith

-- what stands in a list after a place is set
pub set_same : (xs : List ℕ) (i x : ℕ) → i < length xs → get_or (set xs i x) i 0 ≡ x
set_same [] i x lt = absurd (omega arith)
set_same (y ∷ xs) zero x lt = refl
set_same (y ∷ xs) (suc i) x lt = set_same xs i x (omega arith)

pub set_other : (xs : List ℕ) (i x j : ℕ) → i ≢ j → get_or (set xs i x) j 0 ≡ get_or xs j 0
set_other [] i x j differ = refl
set_other (y ∷ xs) zero x zero differ = absurd (differ refl)
set_other (y ∷ xs) zero x (suc j) differ = refl
set_other (y ∷ xs) (suc i) x zero differ = refl
set_other (y ∷ xs) (suc i) x (suc j) differ = set_other xs i x j (λ e. differ (ap suc e))

module _ (parents labels : List ℕ) (has : HasLabels parents labels) where
  -- a number takes the parent of its parent
  pub halved : (at : ℕ) → at < length parents → parent parents at ≢ at → HasLabels (set parents at (parent parents (parent parents at))) labels
  halved at lt no_root =
      let p : ℕ = parent parents at in
      let plt : p < length parents = let d = has.down at lt in omega (arith, d, lt) in
      let above : ℕ = parent parents p in
      let len = length-set parents at above in
      record {
        len = has.len ∙ sym len;
        down = λ u u_lt. elim (same_or_other at u) [
          | inl e ↦ subst (λ w. parent (set parents at above) w ≤ w) e (subst (λ w. w ≤ at) (sym (set_same parents at above lt)) (let a = has.down at lt in let b = has.down p plt in omega (arith, a, b)))
          | inr differ ↦ subst (λ w. w ≤ u) (sym (set_other parents at above u differ)) (has.down u (omega (arith, u_lt, len)))
        ];
        same = λ u u_lt. elim (same_or_other at u) [
          | inl e ↦ subst (λ w. label labels (parent (set parents at above) w) ≡ label labels w) e (ap (label labels) (set_same parents at above lt) ∙ (has.same p plt ∙ has.same at lt))
          | inr differ ↦ ap (label labels) (set_other parents at above u differ) ∙ has.same u (omega (arith, u_lt, len))
        ];
        root = λ u u_lt is. elim (same_or_other at u) [
          | inl e ↦
              let s : above ≡ at = sym (set_same parents at above lt) ∙ (ap (parent (set parents at above)) e ∙ (is ∙ sym e)) in
              absurd (no_root (let a = has.down at lt in let b = has.down p plt in omega (arith, a, b, s)))
          | inr differ ↦ has.root u (omega (arith, u_lt, len)) (sym (set_other parents at above u differ) ∙ is)
        ];
      }

  -- the label of a root
  pub label_below : (u : ℕ) → u < length parents → label labels (parent parents u) ≡ label labels u
  label_below u lt = has.same u lt

  -- a label is its own label
  pub label_again : (bound u : ℕ) → u < bound → u < length parents → label labels (label labels u) ≡ label labels u
  label_again zero u lt inside = absurd (omega arith)
  label_again (suc bound) u lt inside = elim (same_or_other (parent parents u) u) [
    | inl e ↦ ap (label labels) (has.root u inside e)
    | inr differ ↦
        let d = has.down u inside in
        let less : parent parents u < u = strictly (parent parents u) u d differ in
        let again = label_again bound (parent parents u) (omega (arith, less, lt)) (omega (arith, less, inside)) in
        subst (λ w. label labels w ≡ w) (has.same u inside) again
  ]

-- the greater label becomes the lesser
abbrev pub lowered : ℕ → ℕ → ℕ → ℕ
lowered lo hi l = cond (l == hi) lo l

lowered_at : (lo hi l : ℕ) → l ≡ hi → lowered lo hi l ≡ lo
lowered_at lo hi l e = grind (arith, e)

lowered_other : (lo hi l : ℕ) → l ≢ hi → lowered lo hi l ≡ l
lowered_other lo hi l differ = grind (arith, differ)

-- the way up from a number has come to another one of its label
pub record IsUnderWay (old new : List ℕ) (number at : ℕ) : Type 0 where
  pub len : length new ≡ length old
  pub within : at < length old
  pub keeps : (labels : List ℕ) → HasLabels old labels → HasLabels new labels × (label labels at ≡ label labels number)

-- the first numbers have their labels as parents
pub record AreSettled (old new : List ℕ) (done : ℕ) : Type 0 where
  pub len : length new ≡ length old
  pub keeps : (labels : List ℕ) → HasLabels old labels → HasLabels new labels × ((u : ℕ) → u < done → parent new u ≡ label labels u)

map_label : (f : ℕ → ℕ) (xs : List ℕ) (u : ℕ) → u < length xs → get_or (map f xs) u 0 ≡ f (get_or xs u 0)
map_label f [] u lt = absurd (omega arith)
map_label f (x ∷ xs) zero lt = refl
map_label f (x ∷ xs) (suc u) lt = map_label f xs u (omega arith)

module _ (parents labels : List ℕ) (has : HasLabels parents labels) where
  -- a label is not greater than its number
  pub label_least : (bound u : ℕ) → u < bound → u < length parents → label labels u ≤ u
  label_least zero u lt inside = absurd (omega arith)
  label_least (suc bound) u lt inside = elim (same_or_other (parent parents u) u) as (λ _. label labels u ≤ u) [
    | inl e ↦ let r = has.root u inside e in omega (arith, r)
    | inr differ ↦
        let less : parent parents u < u = strictly (parent parents u) u (has.down u inside) differ in
        let again : label labels (parent parents u) ≤ parent parents u = label_least bound (parent parents u) (omega (arith, less, lt)) (omega (arith, less, inside)) in
        let s = has.same u inside in
        omega (arith, less, again, s)
  ]

  -- a number takes its label as parent
  pub labelled : (at value : ℕ) → at < length parents → value ≡ label labels at → HasLabels (set parents at value) labels
  labelled at value lt is =
      let len = length-set parents at value in
      let le = label_least (suc at) at (omega arith) lt in
      record {
        len = has.len ∙ sym len;
        down = λ u u_lt. elim (same_or_other at u) as (λ _. parent (set parents at value) u ≤ u) [
          | inl e ↦ subst (λ w. parent (set parents at value) w ≤ w) e (let s = set_same parents at value lt in omega (arith, s, is, le))
          | inr differ ↦ let o = set_other parents at value u differ in let d = has.down u (omega (arith, u_lt, len)) in omega (arith, o, d)
        ];
        same = λ u u_lt. elim (same_or_other at u) as (λ _. label labels (parent (set parents at value) u) ≡ label labels u) [
          | inl e ↦ subst (λ w. label labels (parent (set parents at value) w) ≡ label labels w) e (ap (label labels) (set_same parents at value lt ∙ is) ∙ label_again parents labels has (suc at) at (omega arith) lt)
          | inr differ ↦ ap (label labels) (set_other parents at value u differ) ∙ has.same u (omega (arith, u_lt, len))
        ];
        root = λ u u_lt own. elim (same_or_other at u) as (λ _. label labels u ≡ u) [
          | inl e ↦ subst (λ w. label labels w ≡ w) e (sym is ∙ (sym (set_same parents at value lt) ∙ (ap (parent (set parents at value)) e ∙ (own ∙ sym e))))
          | inr differ ↦ has.root u (omega (arith, u_lt, len)) (sym (set_other parents at value u differ) ∙ own)
        ];
      }

-- one more step of the way up
pub under_way_more : (old new : List ℕ) (number at : ℕ) (labels : List ℕ) → HasLabels old labels → IsUnderWay old new number at → parent new at ≢ at →
    IsUnderWay old (set new at (parent new (parent new at))) number (parent new (parent new at))
under_way_more old new number at labels has i differ =
    let h : HasLabels new labels = (i.keeps labels has).0 in
    let at_lt : at < length new = omega (arith, i.within, i.len) in
    let p = h.down at at_lt in
    let p_lt : parent new at < length new = omega (arith, p, at_lt) in
    let q = h.down (parent new at) p_lt in
    record {
      len = length-set new at (parent new (parent new at)) ∙ i.len;
      within = omega (arith, p, q, i.within);
      keeps = λ others has_others.
          let k = i.keeps others has_others in
          let kh : HasLabels new others = k.0 in
          (halved new others kh at at_lt differ, kh.same (parent new at) p_lt ∙ (kh.same at at_lt ∙ k.1));
    }

pub under_way_less : (old new : List ℕ) (number at : ℕ) (labels : List ℕ) → HasLabels old labels → IsUnderWay old new number at → parent new at ≢ at → parent new (parent new at) < at
under_way_less old new number at labels has i differ =
    let h : HasLabels new labels = (i.keeps labels has).0 in
    let at_lt : at < length new = omega (arith, i.within, i.len) in
    let p = h.down at at_lt in
    let q = h.down (parent new at) (omega (arith, p, at_lt)) in
    let less = strictly (parent new at) at p differ in
    omega (arith, less, q)

pub under_way_ends : (old new : List ℕ) (number at : ℕ) → IsUnderWay old new number at → parent new at ≡ at → (labels : List ℕ) → HasLabels old labels → at ≡ label labels number
under_way_ends old new number at i own labels has =
    let k = i.keeps labels has in
    let kh : HasLabels new labels = k.0 in
    sym (kh.root at (omega (arith, i.within, i.len)) own) ∙ k.1

pub settled_more : (old new : List ℕ) (done : ℕ) → done < length old → AreSettled old new done → AreSettled old (set new done (parent new (parent new done))) (done + 1)
settled_more old new done lt i =
    let done_lt : done < length new = omega (arith, lt, i.len) in
    record {
      len = length-set new done (parent new (parent new done)) ∙ i.len;
      keeps = λ labels has.
          let k = i.keeps labels has in
          let h : HasLabels new labels = k.0 in
          let value : parent new (parent new done) ≡ label labels done = elim (same_or_other (parent new done) done) as (λ _. parent new (parent new done) ≡ label labels done) [
            | inl e ↦ ap (parent new) e ∙ (e ∙ sym (h.root done done_lt e))
            | inr differ ↦ k.1 (parent new done) (strictly (parent new done) done (h.down done done_lt) differ) ∙ h.same done done_lt
          ] in (
            labelled new labels h done (parent new (parent new done)) done_lt value,
            λ u u_lt. elim (same_or_other done u) as (λ _. parent (set new done (parent new (parent new done))) u ≡ label labels u) [
              | inl e ↦ subst (λ w. parent (set new done (parent new (parent new done))) w ≡ label labels w) e (set_same new done (parent new (parent new done)) done_lt ∙ value)
              | inr differ ↦ set_other new done (parent new (parent new done)) u differ ∙ k.1 u (strictly u done (omega (arith, u_lt)) (λ e. differ (sym e)))
            ],
          );
    }

pub settled_alike : (old new : List ℕ) (done : ℕ) → length old ≤ done → AreSettled old new done → (labels : List ℕ) → HasLabels old labels → AreAlike new labels
settled_alike old new done le i labels has =
    let k = i.keeps labels has in
    record { len = i.len ∙ sym has.len; same = λ u lt. k.1 u (omega (arith, lt, has.len, le)) }

-- ---- joining two roots
has_more : (joins : List NumberJoin) (x y a b : ℕ) → HasJoin (joins ++ record { a = x; b = y } ∷ []) a b → HasJoin joins a b ⊎ (((x ≡ a) × (y ≡ b)) ⊎ ((x ≡ b) × (y ≡ a)))
has_more joins x y a b (inl c) = elim (Contains-push_cases joins (record { a = x; b = y }) (record { a = a; b = b }) c) [
  | inl d ↦ inl (inl d)
  | inr e ↦ inr (inl (ap (λ (w : NumberJoin). w.a) e, ap (λ (w : NumberJoin). w.b) e))
]
has_more joins x y a b (inr c) = elim (Contains-push_cases joins (record { a = x; b = y }) (record { a = b; b = a }) c) [
  | inl d ↦ inl (inr d)
  | inr e ↦ inr (inr (ap (λ (w : NumberJoin). w.a) e, ap (λ (w : NumberJoin). w.b) e))
]

wider : (joins : List NumberJoin) (j : NumberJoin) (a b : ℕ) → HasJoin joins a b → HasJoin (joins ++ j ∷ []) a b
wider joins j a b (inl c) = inl (Contains-append_left joins (j ∷ []) (record { a = a; b = b }) c)
wider joins j a b (inr c) = inr (Contains-append_left joins (j ∷ []) (record { a = b; b = a }) c)

turned : (joins : List NumberJoin) (a b : ℕ) → HasJoin joins a b → HasJoin joins b a
turned joins a b (inl c) = inr c
turned joins a b (inr c) = inl c

module _ (count : ℕ) (parents labels : List ℕ) (has : HasLabels parents labels) (size : length parents ≡ count) (joins : List NumberJoin) (are : AreLabels count joins labels) (x y : ℕ) (x_lt : x < count) (y_lt : y < count)
    (lo hi : ℕ) (le : lo ≤ hi) (ends : ((label labels x ≡ lo) × (label labels y ≡ hi)) ⊎ ((label labels x ≡ hi) × (label labels y ≡ lo))) where
  abbrev pub more : List NumberJoin
  more = joins ++ record { a = x; b = y } ∷ []

  abbrev pub others : List ℕ
  others = map (lowered lo hi) labels

  other_is : (u : ℕ) → u < count → label others u ≡ lowered lo hi (label labels u)
  other_is u lt = map_label (lowered lo hi) labels u (omega (arith, lt, are.len))

  hi_lt : hi < count
  hi_lt = elim ends as (λ _. hi < count) [
    | inl e ↦ let b = are.below y y_lt in let p : label labels y ≡ hi = e.1 in omega (arith, b, p)
    | inr e ↦ let b = are.below x x_lt in let p : label labels x ≡ hi = e.0 in omega (arith, b, p)
  ]

  own : (z v : ℕ) → z < count → label labels z ≡ v → label labels v ≡ v
  own z v lt e = subst (λ w. label labels w ≡ w) e (label_again parents labels has (suc z) z (omega arith) (omega (arith, lt, size)))

  lo_own : label labels lo ≡ lo
  lo_own = elim ends as (λ _. label labels lo ≡ lo) [ inl e ↦ own x lo x_lt e.0 | inr e ↦ own y lo y_lt e.1 ]

  hi_own : label labels hi ≡ hi
  hi_own = elim ends as (λ _. label labels hi ≡ hi) [ inl e ↦ own y hi y_lt e.1 | inr e ↦ own x hi x_lt e.0 ]

  low_lo : lowered lo hi lo ≡ lo
  low_lo = elim (same_or_other lo hi) as (λ _. lowered lo hi lo ≡ lo) [ inl e ↦ lowered_at lo hi lo e | inr n ↦ lowered_other lo hi lo n ]

  has_others : HasLabels (set parents hi lo) others
  has_others =
      let len = length-set parents hi lo in
      let inside : hi < length parents = omega (arith, hi_lt, size) in
      record {
        len = length-map labels (lowered lo hi) ∙ (has.len ∙ sym len);
        down = λ u u_lt. elim (same_or_other hi u) as (λ _. parent (set parents hi lo) u ≤ u) [
          | inl e ↦ subst (λ w. parent (set parents hi lo) w ≤ w) e (let s = set_same parents hi lo inside in omega (arith, s, le))
          | inr n ↦ let o = set_other parents hi lo u n in let d = has.down u (omega (arith, u_lt, len)) in omega (arith, o, d)
        ];
        same = λ u u_lt. elim (same_or_other hi u) as (λ _. label others (parent (set parents hi lo) u) ≡ label others u) [
          | inl e ↦ subst (λ w. label others (parent (set parents hi lo) w) ≡ label others w) e
              (ap (label others) (set_same parents hi lo inside) ∙ (other_is lo (omega (arith, le, hi_lt)) ∙ (ap (lowered lo hi) lo_own ∙ (low_lo ∙ sym (other_is hi hi_lt ∙ (ap (lowered lo hi) hi_own ∙ lowered_at lo hi hi refl))))))
          | inr n ↦
              let lt : u < length parents = omega (arith, u_lt, len) in
              let d = has.down u lt in
              ap (label others) (set_other parents hi lo u n) ∙ (other_is (parent parents u) (omega (arith, d, lt, size)) ∙ (ap (lowered lo hi) (has.same u lt) ∙ sym (other_is u (omega (arith, lt, size)))))
        ];
        root = λ u u_lt is. elim (same_or_other hi u) as (λ _. label others u ≡ u) [
          | inl e ↦ subst (λ w. label others w ≡ w) e
              (other_is hi hi_lt ∙ (ap (lowered lo hi) hi_own ∙ (lowered_at lo hi hi refl ∙ (sym (set_same parents hi lo inside) ∙ (ap (parent (set parents hi lo)) e ∙ (is ∙ sym e))))))
          | inr n ↦
              let lt : u < length parents = omega (arith, u_lt, len) in
              let r = has.root u lt (sym (set_other parents hi lo u n) ∙ is) in
              other_is u (omega (arith, lt, size)) ∙ (ap (lowered lo hi) r ∙ lowered_other lo hi u (λ e. n (sym e)))
        ];
      }

  abbrev pub Linked : ℕ → ℕ → Type 0
  Linked = IsLinked (HasJoin more)

  widened : (u v : ℕ) → u < count → v < count → label labels u ≡ label labels v → Linked u v
  widened u v u_lt v_lt e = linked_map (HasJoin joins) (HasJoin more) (λ z. z) (λ a b s. linked_by (wider joins (record { a = x; b = y }) a b s)) ((are.same u v u_lt v_lt).0 e)

  joined_xy : HasJoin more x y
  joined_xy = inl (Contains-push joins (record { a = x; b = y }))

  -- a number of the greater label and one of the lesser
  across : (u v : ℕ) → u < count → v < count → label labels u ≡ hi → label labels v ≡ lo → Linked u v
  across u v u_lt v_lt p q = elim ends as (λ _. Linked u v) [
    | inl e ↦ linked_along (widened u y u_lt y_lt (p ∙ sym e.1)) (linked_along (linked_by (turned more x y joined_xy)) (widened x v x_lt v_lt (e.0 ∙ sym q)))
    | inr e ↦ linked_along (widened u x u_lt x_lt (p ∙ sym e.0)) (linked_along (linked_by joined_xy) (widened y v y_lt v_lt (e.1 ∙ sym q)))
  ]

  linked_of : (u v : ℕ) → u < count → v < count → lowered lo hi (label labels u) ≡ lowered lo hi (label labels v) → Linked u v
  linked_of u v u_lt v_lt e = elim (same_or_other (label labels u) hi) as (λ _. Linked u v) [
    | inl p ↦ elim (same_or_other (label labels v) hi) as (λ _. Linked u v) [
      | inl q ↦ widened u v u_lt v_lt (p ∙ sym q)
      | inr n ↦ across u v u_lt v_lt p (sym (lowered_other lo hi (label labels v) n) ∙ (sym e ∙ lowered_at lo hi (label labels u) p))
    ]
    | inr m ↦ elim (same_or_other (label labels v) hi) as (λ _. Linked u v) [
      | inl q ↦ linked_back (HasJoin more) (turned more) (across v u v_lt u_lt q (sym (lowered_other lo hi (label labels u) m) ∙ (e ∙ lowered_at lo hi (label labels v) q)))
      | inr n ↦ widened u v u_lt v_lt (sym (lowered_other lo hi (label labels u) m) ∙ (e ∙ lowered_other lo hi (label labels v) n))
    ]
  ]

  low_ends : lowered lo hi (label labels x) ≡ lowered lo hi (label labels y)
  low_ends = elim ends as (λ _. lowered lo hi (label labels x) ≡ lowered lo hi (label labels y)) [
    | inl e ↦ ap (lowered lo hi) e.0 ∙ (low_lo ∙ (sym (lowered_at lo hi hi refl) ∙ ap (lowered lo hi) (sym e.1)))
    | inr e ↦ ap (lowered lo hi) e.0 ∙ (lowered_at lo hi hi refl ∙ (sym low_lo ∙ ap (lowered lo hi) (sym e.1)))
  ]

  step_low : (a b : ℕ) → HasJoin more a b → (b < count) × (lowered lo hi (label labels a) ≡ lowered lo hi (label labels b))
  step_low a b s = elim (has_more joins x y a b s) as (λ _. (b < count) × (lowered lo hi (label labels a) ≡ lowered lo hi (label labels b))) [
    | inl old ↦ let r = are.joins_below a b old in (r.1, ap (lowered lo hi) ((are.same a b r.0 r.1).1 (linked_by old)))
    | inr (inl e) ↦ (subst (λ w. w < count) e.1 y_lt, subst₂ (λ v w. lowered lo hi (label labels v) ≡ lowered lo hi (label labels w)) e.0 e.1 low_ends)
    | inr (inr e) ↦ (subst (λ w. w < count) e.0 x_lt, subst₂ (λ v w. lowered lo hi (label labels v) ≡ lowered lo hi (label labels w)) e.1 e.0 (sym low_ends))
  ]

  step_below : (a b : ℕ) → HasJoin more a b → (a < count) × (b < count)
  step_below a b s = ((step_low b a (turned more a b s)).0, (step_low a b s).0)

  are_others : AreLabels count more others
  are_others = record {
    len = length-map labels (lowered lo hi) ∙ are.len;
    joins_below = step_below;
    below = λ u lt. elim (same_or_other (label labels u) hi) as (λ _. label others u < count) [
      | inl e ↦ let p = other_is u lt in let q = lowered_at lo hi (label labels u) e in omega (arith, p, q, le, hi_lt)
      | inr n ↦ let p = other_is u lt in let q = lowered_other lo hi (label labels u) n in let b = are.below u lt in omega (arith, p, q, b)
    ];
    same = λ u v u_lt v_lt. (
      λ e. linked_of u v u_lt v_lt (sym (other_is u u_lt) ∙ (e ∙ other_is v v_lt)),
      λ l. other_is u u_lt ∙ (linked_keeps (HasJoin more) (λ w. lowered lo hi (label labels u) ≡ lowered lo hi (label labels w)) (λ a b s p. p ∙ (step_low a b s).1) u v l refl ∙ sym (other_is v v_lt)),
    );
  }

  pub joined_labels : (found : List ℕ) × HasLabels (set parents hi lo) found × AreLabels count more found
  joined_labels = (others, has_others, are_others)

pub zero_more : (n : ℕ) → n ≡ 0 + n
zero_more n = omega arith

-- ---- the start
range_next : (n a u : ℕ) → get_or (range_with_len (a + 1) n) u 0 ≡ (a + 1) + u → get_or (range_with_len (a + 1) n) u 0 ≡ a + suc u
range_next n a u e = omega (arith, e)

range_label : (n a u : ℕ) → u < n → get_or (range_with_len a n) u 0 ≡ a + u
range_label zero a u lt = absurd (omega arith)
range_label (suc n) a zero lt = omega arith
range_label (suc n) a (suc u) lt = range_next n a u (range_label n (a + 1) u (omega arith))

none_joined : (a b : ℕ) → ¬ HasJoin [] a b
none_joined a b (inl c) = let lt = c.1 in omega (arith, lt)
none_joined a b (inr c) = let lt = c.1 in omega (arith, lt)

pub linked_up_first : (count : ℕ) → IsLinkedUp count [] (range_with_len 0 count)
linked_up_first count =
    let len = length-range_with_len 0 count in
    let at : (u : ℕ) → u < count → label (range_with_len 0 count) u ≡ u = λ u lt. range_label count 0 u lt ∙ sym (zero_more u) in
    record {
      len = len;
      labels = range_with_len 0 count;
      has = record {
        len = refl;
        down = λ u lt. let e = at u (omega (arith, lt, len)) in omega (arith, e);
        same = λ u lt. ap (label (range_with_len 0 count)) (at u (omega (arith, lt, len)));
        root = λ u lt own. at u (omega (arith, lt, len));
      };
      are = record {
        len = len;
        joins_below = λ a b s. absurd (none_joined a b s);
        below = λ u lt. let e = at u lt in omega (arith, e, lt);
        same = λ u v u_lt v_lt. (
          λ e. let s : u ≡ v = sym (at u u_lt) ∙ (e ∙ at v v_lt) in subst (IsLinked (HasJoin []) u) s (linked_itself (HasJoin []) u),
          λ l. ap (label (range_with_len 0 count)) (linked_alone (HasJoin []) u (none_joined u) l),
        );
      };
    }

pub labels_alike : (count : ℕ) (joins : List NumberJoin) (labels others : List ℕ) → AreLabels count joins others → AreAlike labels others → AreLabels count joins labels
labels_alike count joins labels others are alike =
    let at : (u : ℕ) → u < count → label labels u ≡ label others u = λ u lt. alike.same u (omega (arith, lt, are.len)) in
    record {
      len = alike.len ∙ are.len;
      joins_below = are.joins_below;
      below = λ u lt. let e = at u lt in let b = are.below u lt in omega (arith, e, b);
      same = λ u v u_lt v_lt. (
        λ e. (are.same u v u_lt v_lt).0 (sym (at u u_lt) ∙ (e ∙ at v v_lt)),
        λ l. at u u_lt ∙ ((are.same u v u_lt v_lt).1 l ∙ sym (at v v_lt)),
      );
    }

-- what is written back through a slice of a whole list
pub written_back : {A : Type 0} (len : ℕ) (new items : List A) → length items ≤ len → length new ≡ length items → take len (new ++ drop (length new) items) ≡ new
written_back len new items le same =
    let none : drop (length new) items ≡ [] = drop_all (length new) items (omega (arith, same)) in
    ap (λ w. take len (new ++ w)) none ∙ (ap (take len) (append-nil new) ∙ take_all len new (omega (arith, le, same)))
