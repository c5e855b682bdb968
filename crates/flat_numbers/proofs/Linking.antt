-- the joins of a spot, one after the other
use Rattle.std.proofs.Common.{◌≡◌, ℕ, ◌+◌, ◌<◌, ◌≤◌, ◌⊎◌, inl, inr, List, [], ◌∷◌, ◌++◌, refl, sym, ◌∙◌, ap, subst, subst₂, slice_get, Option, Some, None, Bool, length, arith}
use Rattle.std.specs.Prelude.{Contains}
use Rattle.std.proofs.lemmas.List.Elements.{Contains-append_left, Contains-get_or, Contains-push, Contains-push_cases}
use Rattle.std.proofs.lemmas.Option.{get_or_from_slice_get, slice_get_within}
use Rattle.flat_numbers.specs.declared.joins.NumberJoin.{NumberJoin}
use Rattle.net_hier.specs.Constants.{ConstantNames}
use Rattle.net_hier.specs.Cells.{IsConstantInstance}
use Rattle.net_hier.specs.Design.{IsCell}
use Rattle.net_hier.specs.declared.cells.HInst.{HInst}
use Rattle.net_hier.specs.declared.nodes.Node.TheVariants.{Pin}
use Rattle.net_graph.proofs.OrderLaws.{StandsIn, contained}
use Rattle.net_hier.proofs.PathLaws.{same_element}
use Rattle.net_hier.specs.declared.cells.HCell.{HCell}
use Rattle.net_hier.specs.declared.nodes.Join.{Join}
use Rattle.flat_numbers.specs.FlatJoins.{AreConstants, ConstantAt, ConstantsOf, Extends, InstanceAt, LinksOf}
use Rattle.flat_numbers.specs.Forest.{HasLabels, IsForest, IsLinkedUp, LinksMore}
use Rattle.flat_numbers.specs.Linked.{AreLabels}
use Rattle.flat_numbers.specs.Numbers.{AreFlatJoins, CellOf, FlatJoin, by_link, by_constant, NodeNumber, constant_number}
use Rattle.flat_numbers.specs.declared.spots.Spot.{Spot}
use Rattle.flat_numbers.proofs.Rows.{last_or_less}

-- one of the first joins of the cell at the spot has nodes of these numbers
pub record LinksBefore (cells : List HCell) (spots : List Spot) (base : ℕ → ℕ) (number : ℕ) (links : List Join) (done u v : ℕ) : Type 0 where
  pub cell : HCell
  pub of_cell : CellOf cells spots number cell
  pub place : ℕ
  pub is_done : place < done
  pub join : Join
  pub is_there : slice_get links place ≡ Some join
  pub a_number : NodeNumber cells spots base number cell join.a u
  pub b_number : NodeNumber cells spots base number cell join.b v

pub contains_there : {A : Type 0} (xs : List A) (i : ℕ) (x : A) → slice_get xs i ≡ Some x → Contains xs x
contains_there xs i x e = let lt = slice_get_within xs i x e in subst (Contains xs) (get_or_from_slice_get xs i x x e) (Contains-get_or xs i x lt)

one_cell_of : (cells : List HCell) (spots : List Spot) (number : ℕ) (a b : HCell) → CellOf cells spots number a → CellOf cells spots number b → a ≡ b
one_cell_of cells spots number a b ha hb =
    let e : ha.spot ≡ hb.spot = same_element spots number ha.spot hb.spot ha.is_spot hb.is_spot in
    same_element cells hb.spot.cell a b (subst (λ (s : Spot). IsCell cells s.cell a) e ha.is_cell) hb.is_cell

clash : (found : Option Bool) (value : Bool) → Some found ≡ Some (Some value) → found ≡ None → ⊥
clash found value e none = cc

one_value : (a b : Bool) → Some (Some a) ≡ Some (Some b) → a ≡ b
one_value a b e = cc

pub extends_none : (old : List NumberJoin) (IsNew : ℕ → ℕ → Type 0) → ((u v : ℕ) → ¬ IsNew u v) → Extends old old IsNew
extends_none old IsNew none = λ u v. (λ c. inl c, λ s. elim s [ inl c ↦ c | inr n ↦ absurd (none u v n) ])

pub extends_push : (old now more : List NumberJoin) (IsBefore IsAfter : ℕ → ℕ → Type 0) (a b : ℕ) → more ≡ now ++ record { a = a; b = b } ∷ [] →
    ((u v : ℕ) → IsAfter u v → IsBefore u v ⊎ ((a ≡ u) × (b ≡ v))) → ((u v : ℕ) → IsBefore u v → IsAfter u v) → IsAfter a b → Extends old now IsBefore → Extends old more IsAfter
extends_push old now more IsBefore IsAfter a b e apart keep here extends = λ u v. (
  λ c. elim (Contains-push_cases now (record { a = a; b = b }) (record { a = u; b = v }) (subst (λ w. Contains w (record { a = u; b = v })) e c)) [
    | inl d ↦ elim ((extends u v).0 d) [ inl o ↦ inl o | inr n ↦ inr (keep u v n) ]
    | inr same ↦
        let p : a ≡ u = ap (λ (w : NumberJoin). w.a) same in
        let q : b ≡ v = ap (λ (w : NumberJoin). w.b) same in
        inr (subst₂ IsAfter p q here)
  ],
  λ s. subst (λ w. Contains w (record { a = u; b = v })) (sym e) (elim s [
    | inl o ↦ Contains-append_left now (record { a = a; b = b } ∷ []) (record { a = u; b = v }) ((extends u v).1 (inl o))
    | inr n ↦ elim (apart u v n) [
      | inl before ↦ Contains-append_left now (record { a = a; b = b } ∷ []) (record { a = u; b = v }) ((extends u v).1 (inr before))
      | inr (p, q) ↦ let same : record { a = a; b = b } ≡ record { a = u; b = v } = ap (λ w. record { a = w; b = b }) p ∙ ap (λ w. record { a = u; b = w }) q in
          subst (Contains (now ++ record { a = a; b = b } ∷ [])) same (Contains-push now (record { a = a; b = b }))
    ]
  ]),
)

module _ (cells : List HCell) (spots : List Spot) (base : ℕ → ℕ) (number : ℕ) (links : List Join) (i : ℕ) (link : Join) (there : slice_get links i ≡ Some link) (a b : ℕ)
    (found_a : (cell : HCell) (u : ℕ) → CellOf cells spots number cell → NodeNumber cells spots base number cell link.a u → a ≡ u)
    (found_b : (cell : HCell) (u : ℕ) → CellOf cells spots number cell → NodeNumber cells spots base number cell link.b u → b ≡ u) where
  pub links_apart : (u v : ℕ) → LinksBefore cells spots base number links (i + 1) u v → LinksBefore cells spots base number links i u v ⊎ ((a ≡ u) × (b ≡ v))
  links_apart u v h = elim (last_or_less h.place i h.is_done) [
    | inl lt ↦ inl (record { cell = h.cell; of_cell = h.of_cell; place = h.place; is_done = lt; join = h.join; is_there = h.is_there; a_number = h.a_number; b_number = h.b_number })
    | inr e ↦
        let same : h.join ≡ link = same_element links i h.join link (subst (λ n. slice_get links n ≡ Some h.join) e h.is_there) there in
        inr (
          found_a h.cell u h.of_cell (subst (λ (j : Join). NodeNumber cells spots base number h.cell j.a u) same h.a_number),
          found_b h.cell v h.of_cell (subst (λ (j : Join). NodeNumber cells spots base number h.cell j.b v) same h.b_number),
        )
  ]

  pub links_kept : (u v : ℕ) → LinksBefore cells spots base number links i u v → LinksBefore cells spots base number links (i + 1) u v
  links_kept u v h = record { cell = h.cell; of_cell = h.of_cell; place = h.place; is_done = omega (arith, h.is_done); join = h.join; is_there = h.is_there; a_number = h.a_number; b_number = h.b_number }

  pub links_here : (cell : HCell) → CellOf cells spots number cell → NodeNumber cells spots base number cell link.a a → NodeNumber cells spots base number cell link.b b → LinksBefore cells spots base number links (i + 1) a b
  links_here cell of m n = record { cell = cell; of_cell = of; place = i; is_done = omega arith; join = link; is_there = there; a_number = m; b_number = n }

one_spot_of : (cells : List HCell) (spots : List Spot) (number : ℕ) (a b : HCell) → (ha : CellOf cells spots number a) → (hb : CellOf cells spots number b) → ha.spot.cell ≡ hb.spot.cell
one_spot_of cells spots number a b ha hb = ap (λ (s : Spot). s.cell) (same_element spots number ha.spot hb.spot ha.is_spot hb.is_spot)

-- at the end these are the links of the spot
pub links_whole : (cells : List HCell) (spots : List Spot) (base : ℕ → ℕ) (links : ℕ → List Join) (number : ℕ) (list : List Join) (done : ℕ) (cell : HCell) (old new : List NumberJoin) → (of : CellOf cells spots number cell) → list ≡ links of.spot.cell → length list ≤ done →
    Extends old new (LinksBefore cells spots base number list done) → Extends old new (LinksOf cells spots base links number)
links_whole cells spots base links number list done cell old new of same le extends = λ u v. (
  λ c. elim ((extends u v).0 c) [
    | inl o ↦ inl o
    | inr h ↦
        let j : list ≡ links h.of_cell.spot.cell = same ∙ ap links (one_spot_of cells spots number cell h.cell of h.of_cell) in
        inr (record { cell = h.cell; of_cell = h.of_cell; join = h.join; is_join = subst (λ w. Contains w h.join) j (contains_there list h.place h.join h.is_there); a_number = h.a_number; b_number = h.b_number })
  ],
  λ s. (extends u v).1 (elim s [
    | inl o ↦ inl o
    | inr h ↦
        let j : links h.of_cell.spot.cell ≡ list = ap links (one_spot_of cells spots number h.cell cell h.of_cell of) ∙ sym same in
        let at : StandsIn list h.join = contained list h.join (subst (λ w. Contains w h.join) j h.is_join) in
        let lt : at.place < length list = slice_get_within list at.place h.join at.is_there in
        inr (record { cell = h.cell; of_cell = h.of_cell; place = at.place; is_done = omega (arith, lt, le); join = h.join; is_there = at.is_there; a_number = h.a_number; b_number = h.b_number })
  ]),
)

-- the links of a spot are those of its cell in the table
pub links_of_cell : (cells : List HCell) (spots : List Spot) (base : ℕ → ℕ) (links : ℕ → List Join) (number : ℕ) (list : List Join) (cell : HCell) (old new : List NumberJoin) → (of : CellOf cells spots number cell) → list ≡ links of.spot.cell →
    Extends old new (LinksOf cells spots base (λ _. list) number) → Extends old new (LinksOf cells spots base links number)
links_of_cell cells spots base links number list cell old new of same extends = λ u v. (
  λ c. elim ((extends u v).0 c) [
    | inl o ↦ inl o
    | inr h ↦ inr (record { cell = h.cell; of_cell = h.of_cell; join = h.join; is_join = subst (λ w. Contains w h.join) (same ∙ ap links (one_spot_of cells spots number cell h.cell of h.of_cell)) h.is_join; a_number = h.a_number; b_number = h.b_number })
  ],
  λ s. (extends u v).1 (elim s [
    | inl o ↦ inl o
    | inr h ↦ inr (record { cell = h.cell; of_cell = h.of_cell; join = h.join; is_join = subst (λ w. Contains w h.join) (ap links (one_spot_of cells spots number h.cell cell h.of_cell of) ∙ sym same) h.is_join; a_number = h.a_number; b_number = h.b_number })
  ]),
)

-- no constant: no join
pub constant_none : (names : ConstantNames) (cells : List HCell) (spots : List Spot) (base : ℕ → ℕ) (constants : List (Option Bool)) (number place below : ℕ) → AreConstants names cells constants → InstanceAt cells spots number place below → (found : Option Bool) → slice_get constants below ≡ Some found →
    found ≡ None → (u v : ℕ) → ¬ ConstantAt names cells spots base number place u v
constant_none names cells spots base constants number place below are at found there none u v h =
    let k : IsConstantInstance names cells h.cell h.value place = h.is_constant in
    let c : at.cell ≡ h.cell = one_cell_of cells spots number at.cell h.cell at.of_cell h.of_cell in
    let i : at.instance ≡ k.the_instance = same_element h.cell.instances place at.instance k.the_instance (subst (λ (w : HCell). slice_get w.instances place ≡ Some at.instance) c at.is_there) k.is_there in
    let n : k.the_instance.cell ≡ below = ap (λ (w : HInst). w.cell) (sym i) ∙ at.is_of in
    let t : slice_get constants below ≡ Some (Some h.value) = (are.are below k.below h.value (subst (λ m. IsCell cells m k.below) n k.is_below)).1 k.is_constant in
    let e : Some found ≡ Some (Some h.value) = sym there ∙ t in
    clash found h.value e none

-- the constant's instance
pub constant_there : (names : ConstantNames) (cells : List HCell) (spots : List Spot) (constants : List (Option Bool)) (number place below : ℕ) → AreConstants names cells constants → (at : InstanceAt cells spots number place below) → (value : Bool) → slice_get constants below ≡ Some (Some value) →
    IsConstantInstance names cells at.cell value place
constant_there names cells spots constants number place below are at value there = record {
  the_instance = at.instance;
  is_there = at.is_there;
  below = at.below_cell;
  is_below = subst (λ m. IsCell cells m at.below_cell) (sym at.is_of) at.is_below;
  is_constant = (are.are below at.below_cell value at.is_below).0 there;
}

pub constant_push : (names : ConstantNames) (cells : List HCell) (spots : List Spot) (base : ℕ → ℕ) (constants : List (Option Bool)) (number place below : ℕ) → AreConstants names cells constants → (at : InstanceAt cells spots number place below) → (value : Bool) → slice_get constants below ≡ Some (Some value) →
    (old more : List NumberJoin) (a b : ℕ) → more ≡ old ++ record { a = a; b = b } ∷ [] → b ≡ constant_number value → ((cell : HCell) (u : ℕ) → CellOf cells spots number cell → NodeNumber cells spots base number cell (Pin place 0 0) u → a ≡ u) → NodeNumber cells spots base number at.cell (Pin place 0 0) a →
    Extends old more (ConstantAt names cells spots base number place)
constant_push names cells spots base constants number place below are at value there old more a b e is found got =
    extends_push old old more (λ u v. ⊥) (ConstantAt names cells spots base number place) a b e
    (λ u v h.
    let k : IsConstantInstance names cells h.cell h.value place = h.is_constant in
    let c : at.cell ≡ h.cell = one_cell_of cells spots number at.cell h.cell at.of_cell h.of_cell in
    let i : at.instance ≡ k.the_instance = same_element h.cell.instances place at.instance k.the_instance (subst (λ (w : HCell). slice_get w.instances place ≡ Some at.instance) c at.is_there) k.is_there in
    let n : k.the_instance.cell ≡ below = ap (λ (w : HInst). w.cell) (sym i) ∙ at.is_of in
    let t : slice_get constants below ≡ Some (Some h.value) = (are.are below k.below h.value (subst (λ m. IsCell cells m k.below) n k.is_below)).1 k.is_constant in
    let same : value ≡ h.value = one_value value h.value (sym there ∙ t) in
    inr (found h.cell u h.of_cell h.pin_number, is ∙ (ap constant_number same ∙ sym h.v_is)))
    (λ u v no. absurd no)
    (record { cell = at.cell; of_cell = at.of_cell; value = value; is_constant = constant_there names cells spots constants number place below are at value there; pin_number = got; v_is = is })
    (extends_none old (λ u v. ⊥) (λ u v no. no))

-- what is added in two turns
pub extends_along : (a b c : List NumberJoin) (P Q R : ℕ → ℕ → Type 0) → Extends a b P → Extends b c Q → ((u v : ℕ) → R u v → P u v ⊎ Q u v) → ((u v : ℕ) → P u v → R u v) → ((u v : ℕ) → Q u v → R u v) → Extends a c R
extends_along a b c P Q R p q apart left right = λ u v. (
  λ h. elim ((q u v).0 h) [
    | inl in_b ↦ elim ((p u v).0 in_b) [ inl in_a ↦ inl in_a | inr n ↦ inr (left u v n) ]
    | inr n ↦ inr (right u v n)
  ],
  λ s. elim s [
    | inl in_a ↦ (q u v).1 (inl ((p u v).1 (inl in_a)))
    | inr r ↦ elim (apart u v r) [ inl n ↦ (q u v).1 (inl ((p u v).1 (inr n))) | inr n ↦ (q u v).1 (inr n) ]
  ],
)

-- what is told of the first numbers
abbrev pub Below : (ℕ → ℕ → ℕ → Type 0) → ℕ → ℕ → ℕ → Type 0
Below P done u v = (n : ℕ) × (n < done) × P n u v

pub below_more : (P : ℕ → ℕ → ℕ → Type 0) (done : ℕ) (a b c : List NumberJoin) → Extends a b (Below P done) → Extends b c (P done) → Extends a c (Below P (done + 1))
below_more P done a b c p q = extends_along a b c (Below P done) (P done) (Below P (done + 1)) p q
    (λ u v r. elim (last_or_less r.0 done r.1) [ inl lt ↦ inl (r.0, lt, r.2) | inr e ↦ inr (subst (λ n. P n u v) e r.2) ])
    (λ u v r. (r.0, (let lt = r.1 in omega (arith, lt)), r.2))
    (λ u v n. (done, omega arith, n))

-- all instances of the spot's cell
pub constants_whole : (names : ConstantNames) (cells : List HCell) (spots : List Spot) (base : ℕ → ℕ) (number : ℕ) (cell : HCell) (done : ℕ) (old new : List NumberJoin) → CellOf cells spots number cell → length cell.instances ≤ done →
    Extends old new (Below (ConstantAt names cells spots base number) done) → Extends old new (ConstantsOf names cells spots base number)
constants_whole names cells spots base number cell done old new of le extends = λ u v. (
  λ h. elim ((extends u v).0 h) [ inl o ↦ inl o | inr n ↦ inr (n.0, n.2) ],
  λ s. (extends u v).1 (elim s [
    | inl o ↦ inl o
    | inr n ↦
        let c : ConstantAt names cells spots base number n.0 u v = n.1 in
        let e : c.cell ≡ cell = one_cell_of cells spots number c.cell cell c.of_cell of in
        let lt : n.0 < length c.cell.instances = slice_get_within c.cell.instances n.0 c.is_constant.the_instance c.is_constant.is_there in
        let l : length c.cell.instances ≡ length cell.instances = ap (λ (w : HCell). length w.instances) e in
        inr (n.0, omega (arith, lt, le, l), n.1)
  ]),
)

-- the joins of one spot
abbrev pub JoinsOf : ConstantNames → List HCell → List Spot → (ℕ → ℕ) → (ℕ → List Join) → ℕ → ℕ → ℕ → Type 0
JoinsOf names cells spots base links number u v = LinksOf cells spots base links number u v ⊎ ConstantsOf names cells spots base number u v

module _ (names : ConstantNames) (cells : List HCell) (spots : List Spot) (base : ℕ → ℕ) (links : ℕ → List Join) where
  pub spot_joins : (number : ℕ) (a b c : List NumberJoin) → Extends a b (LinksOf cells spots base links number) → Extends b c (ConstantsOf names cells spots base number) → Extends a c (JoinsOf names cells spots base links number)
  spot_joins number a b c p q = extends_along a b c (LinksOf cells spots base links number) (ConstantsOf names cells spots base number) (JoinsOf names cells spots base links number) p q (λ u v r. r) (λ u v n. inl n) (λ u v n. inr n)

  from_flat : (done : ℕ) → length spots ≤ done → (u v : ℕ) → FlatJoin names cells spots base links u v → Below (JoinsOf names cells spots base links) done u v
  from_flat done le u v (by_link {number = number} {spot = spot} {cell = cell} {x = x} {y = y} is_spot is_cell linked m n) =
      let lt : number < length spots = slice_get_within spots number spot is_spot in
      (number, omega (arith, lt, le), inl (record { cell = cell; of_cell = record { spot = spot; is_spot = is_spot; is_cell = is_cell }; join = record { a = x; b = y }; is_join = linked; a_number = m; b_number = n }))
  from_flat done le u v (by_constant {number = number} {cell = cell} {instance = instance} {value = value} of constant n) =
      let lt : number < length spots = slice_get_within spots number of.spot of.is_spot in
      (number, omega (arith, lt, le), inr (instance, record { cell = cell; of_cell = of; value = value; is_constant = constant; pin_number = n; v_is = refl }))

  pub joins_whole : (done : ℕ) (old joins : List NumberJoin) → length spots ≤ done → Extends old joins (Below (JoinsOf names cells spots base links) done) → Extends old joins (FlatJoin names cells spots base links)
  joins_whole done old joins le extends = λ u v. (
    λ h. elim ((extends u v).0 h) [
      | inl o ↦ inl o
      | inr n ↦ inr (elim n.2 as (λ _. FlatJoin names cells spots base links u v) [
        | inl l ↦ by_link l.of_cell.is_spot l.of_cell.is_cell l.is_join l.a_number l.b_number
        | inr c ↦ let k : ConstantAt names cells spots base n.0 c.0 u v = c.1 in
            subst (FlatJoin names cells spots base links u) (sym k.v_is) (by_constant k.of_cell k.is_constant k.pin_number)
      ])
    ],
    λ s. (extends u v).1 (elim s [ inl o ↦ inl o | inr f ↦ inr (from_flat done le u v f) ]),
  )

  -- what is added to no joins
  pub joins_alone : (joins : List NumberJoin) → Extends [] joins (FlatJoin names cells spots base links) → AreFlatJoins names cells spots base links joins
  joins_alone joins extends = λ u v. (
    λ h. elim ((extends u v).0 h) as (λ _. FlatJoin names cells spots base links u v) [ inl none ↦ absurd (let lt = none.1 in omega (arith, lt)) | inr f ↦ f ],
    λ f. (extends u v).1 (inr f),
  )

-- ---- the parents are linked by joins that are not kept
-- what one more join makes of the labels
abbrev pub IsJoined : List ℕ → List ℕ → ℕ → ℕ → Type 0
IsJoined old new a b = (joins : List NumberJoin) (labels : List ℕ) → HasLabels old labels → AreLabels (length old) joins labels →
    (others : List ℕ) × HasLabels new others × AreLabels (length old) (joins ++ record { a = a; b = b } ∷ []) others

joined_up : (count : ℕ) (joins : List NumberJoin) (old new : List ℕ) (a b : ℕ) → IsJoined old new a b → length new ≡ length old → IsLinkedUp count joins old → IsLinkedUp count (joins ++ record { a = a; b = b } ∷ []) new
joined_up count joins old new a b joined len up =
    let (others, has, are) = joined joins up.labels up.has (subst (λ n. AreLabels n joins up.labels) (sym up.len) up.are) in
    record { len = len ∙ up.len; labels = others; has = has; are = subst (λ n. AreLabels n (joins ++ record { a = a; b = b } ∷ []) others) up.len are }

module _ (count : ℕ) where
  pub forest_labels : (parents : List ℕ) → IsForest count parents → (labels : List ℕ) × HasLabels parents labels
  forest_labels parents forest = let up = forest.1 in (up.labels, up.has)

  pub forest_more : (old new : List ℕ) (P : ℕ → ℕ → Type 0) → IsForest count old → LinksMore count old new P → IsForest count new
  forest_more old new P forest links = let l = links forest.0 forest.1 in (l.0, l.2)

  pub links_none : (old : List ℕ) (P : ℕ → ℕ → Type 0) → ((u v : ℕ) → ¬ P u v) → LinksMore count old old P
  links_none old P none = λ joins up. (joins, extends_none joins P none, up)

  pub links_by : (old new : List ℕ) (P Q : ℕ → ℕ → Type 0) → ((x y : List NumberJoin) → Extends x y P → Extends x y Q) → LinksMore count old new P → LinksMore count old new Q
  links_by old new P Q told links = λ joins up. let l = links joins up in (l.0, told joins l.0 l.1, l.2)

  pub links_along : (a b c : List ℕ) (P Q R : ℕ → ℕ → Type 0) → ((x y z : List NumberJoin) → Extends x y P → Extends y z Q → Extends x z R) → LinksMore count a b P → LinksMore count b c Q → LinksMore count a c R
  links_along a b c P Q R told p q = λ joins up. let l = p joins up in let m = q l.0 l.2 in (m.0, told joins l.0 m.0 l.1 m.1, m.2)

  pub links_join : (old new : List ℕ) (a b : ℕ) (P : ℕ → ℕ → Type 0) → IsJoined old new a b → length new ≡ length old → ((x : List NumberJoin) → Extends x (x ++ record { a = a; b = b } ∷ []) P) → LinksMore count old new P
  links_join old new a b P joined len told = λ joins up. (joins ++ record { a = a; b = b } ∷ [], told joins, joined_up count joins old new a b joined len up)

  pub links_push : (old now new : List ℕ) (a b : ℕ) (P Q : ℕ → ℕ → Type 0) → IsJoined now new a b → length new ≡ length now → ((x y : List NumberJoin) → Extends x y P → Extends x (y ++ record { a = a; b = b } ∷ []) Q) → LinksMore count old now P → LinksMore count old new Q
  links_push old now new a b P Q joined len told links = λ joins up. let l = links joins up in (l.0 ++ record { a = a; b = b } ∷ [], told joins l.0 l.1, joined_up count l.0 now new a b joined len l.2)
