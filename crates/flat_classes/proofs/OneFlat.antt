-- a valid design has one value of flat classes
use Rattle.std.proofs.Common.{◌≡◌, ℕ, zero, suc, ◌+◌, ◌<◌, inl, inr, List, [], ◌∷◌, ◌++◌, refl, sym, ◌∙◌, ap, subst, subst₂, slice_get, get_or, Some, true, false, not, ◌==◌, length, filter, arith}
use Rattle.std.specs.Prelude.{Contains, ◌↔◌}
use Rattle.std.proofs.lemmas.List.Elements.{Contains-append_cases}
use Rattle.std.proofs.lemmas.Option.{slice_get-get_or}
use Rattle.net_hier.specs.Constants.{ConstantNames}
use Rattle.net_hier.specs.Design.{Design}
use Rattle.net_hier.specs.Flat.{FlatNode, Constant, At}
use Rattle.net_hier.specs.Valid.{IsValid}
use Rattle.net_hier.specs.declared.cells.HCell.{HCell}
use Rattle.net_hier.specs.declared.nodes.Node.TheVariants.{Port as PortNode}
use Rattle.net_hier.proofs.PathLaws.{same_element}
use Rattle.flat_numbers.specs.Spots.{Walks, lists, ends, spots_below}
use Rattle.flat_numbers.specs.declared.spots.Spot.{Spot}
use Rattle.flat_numbers.proofs.Linking.{contains_there}
use Rattle.flat_numbers.proofs.PathSpots.{spot_has_path}
use Rattle.flat_numbers.proofs.SpotLaws.{SpotFacts, spot_facts}
use Rattle.flat_classes.specs.Groups.{AreInOrder, group_at}
use Rattle.flat_classes.specs.Terminals.{AreFlatClasses, FlatValue, IsLeafSpot, IsNodeOf, of_port, of_pin, of_zero, of_one, bits_of_ports, ports_at, terminals_of}
use Rattle.flat_classes.specs.declared.flat.Terminal.{Terminal}
use Rattle.flat_classes.specs.declared.flat.Terminal.TheVariants.{Port, Pin, Zero, One}
use Rattle.flat_classes.proofs.KindLaws.{first_or_rest, from_flat, in_first, in_rest, nothing_in}
use Rattle.flat_classes.proofs.LeafLists.{from_bits, from_filter}

-- a walk lists one list
pub one_walk : {cells : List HCell} {number : ℕ} {waiting a b : List Spot} → Walks cells number waiting a → Walks cells number waiting b → a ≡ b
one_walk ends ends = refl
one_walk {cells = cells} {number = number} (lists {spot = spot} {cell = c} {waiting = waiting} {after = after} is walk) (lists {cell = d} {after = other} is_other walk_other) =
    let same : d ≡ c = same_element cells spot.cell d c is_other is in
    ap (λ w. spot ∷ w) (one_walk walk (subst (λ (e : HCell). Walks cells (suc number) (spots_below number 0 e.instances ++ waiting) other) same walk_other))

-- the elements rise
abbrev IsRising : List ℕ → Type 0
IsRising xs = (i j a b : ℕ) → i < j → slice_get xs i ≡ Some a → slice_get xs j ≡ Some b → a < b

rest_rises : (x : ℕ) (xs : List ℕ) → IsRising (x ∷ xs) → IsRising xs
rest_rises x xs rises i j a b lt ea eb = rises (suc i) (suc j) a b (omega (arith, lt)) ea eb

first_least : (x : ℕ) (xs : List ℕ) → IsRising (x ∷ xs) → (n : ℕ) → Contains xs n → x < n
first_least x xs rises n c = let (place, there) = place_of xs n c in rises 0 (suc place) x n (omega arith) refl there
  where
    place_of : (ys : List ℕ) (m : ℕ) → Contains ys m → (place : ℕ) × (slice_get ys place ≡ Some m)
    place_of [] m c = absurd (nothing_in m c)
    place_of (y ∷ ys) m c = elim (first_or_rest y ys m c) [
      | inl e ↦ (0, ap Some e)
      | inr r ↦ let (place, there) = place_of ys m r in (suc place, there)
    ]

-- of rising lists the elements determine the list
pub one_rising : (xs ys : List ℕ) → IsRising xs → IsRising ys → ((n : ℕ) → Contains xs n ↔ Contains ys n) → xs ≡ ys
one_rising [] [] rx ry same = refl
one_rising [] (y ∷ ys) rx ry same = absurd (nothing_in y ((same y).1 (in_first y ys)))
one_rising (x ∷ xs) [] rx ry same = absurd (nothing_in x ((same x).0 (in_first x xs)))
one_rising (x ∷ xs) (y ∷ ys) rx ry same =
    let first : x ≡ y = elim (first_or_rest y ys x ((same x).0 (in_first x xs))) [
      | inl e ↦ sym e
      | inr in_ys ↦ elim (first_or_rest x xs y ((same y).1 (in_first y ys))) [
        | inl e ↦ e
        | inr in_xs ↦ let a = first_least y ys ry x in_ys in let b = first_least x xs rx y in_xs in absurd (omega (arith, a, b))
      ]
    ] in
    let rest : xs ≡ ys = one_rising xs ys (rest_rises x xs rx) (rest_rises y ys ry) (λ n. (
      λ c. elim (first_or_rest y ys n ((same n).0 (in_rest x xs n c))) [
        | inl e ↦ let a = first_least x xs rx n c in absurd (omega (arith, a, first, e))
        | inr r ↦ r
      ],
      λ c. elim (first_or_rest x xs n ((same n).1 (in_rest y ys n c))) [
        | inl e ↦ let a = first_least y ys ry n c in absurd (omega (arith, a, first, e))
        | inr r ↦ r
      ],
    )) in
    subst (λ w. x ∷ xs ≡ w ∷ ys) first (ap (λ w. x ∷ w) rest)

-- two lists of group numbers agree on which places are in one group
abbrev pub AreAgreed : List ℕ → List ℕ → Type 0
AreAgreed a b = (i j : ℕ) → i < length a → j < length a → (group_at a i ≡ group_at a j) ↔ (group_at b i ≡ group_at b j)

-- lists with equal elements at each place
same_elements : (a b : List ℕ) → length a ≡ length b → ((i : ℕ) → i < length a → group_at a i ≡ group_at b i) → a ≡ b
same_elements [] [] len each = refl
same_elements [] (y ∷ b) len each = absurd (omega (arith, len))
same_elements (x ∷ a) [] len each = absurd (omega (arith, len))
same_elements (x ∷ a) (y ∷ b) len each =
    let first : x ≡ y = each 0 (omega arith) in
    let rest : a ≡ b = same_elements a b (omega (arith, len)) (λ i lt. each (suc i) (omega (arith, lt))) in
    subst (λ w. x ∷ a ≡ w ∷ b) first (ap (λ w. x ∷ w) rest)

module _ (a b : List ℕ) (m n : ℕ) (len : length a ≡ length b) (in_order : AreInOrder a m) (other_order : AreInOrder b n) (agreed : AreAgreed a b) where
  less_or_more : (x y : ℕ) → ¬ (x < y) → ¬ (y < x) → x ≡ y
  less_or_more x y f g = omega (arith, f, g)

  -- the groups of the places below a bound are the same
  same_below : (bound i : ℕ) → i < bound → i < length a → group_at a i ≡ group_at b i
  same_below zero i lt within = absurd (omega (arith, lt))
  same_below (suc bound) i lt within = less_or_more (group_at a i) (group_at b i)
      (λ less. let (j, before, is) = other_order.ordered i (group_at a i) (omega (arith, within, len)) less in
      let inside : j < length a = omega (arith, before, within) in
      let e : group_at a j ≡ group_at b j = same_below bound j (omega (arith, before, lt)) inside in
      let both : group_at b j ≡ group_at b i = (agreed j i inside within).0 (e ∙ is) in
      omega (arith, both, is, less))
      (λ less. let (j, before, is) = in_order.ordered i (group_at b i) within less in
      let inside : j < length a = omega (arith, before, within) in
      let e : group_at a j ≡ group_at b j = same_below bound j (omega (arith, before, lt)) inside in
      let both : group_at a j ≡ group_at a i = (agreed j i inside within).1 (sym e ∙ is) in
      omega (arith, both, is, less))

  pub one_numbering : a ≡ b
  one_numbering = same_elements a b len (λ i lt. same_below (suc i) i (omega arith) lt)

-- the groups that are used are as many as are counted
one_count : (a : List ℕ) (m n : ℕ) → AreInOrder a m → AreInOrder a n → m ≡ n
one_count a m n in_order other_order = less_or_more m n
    (λ less. let (place, within, is) = other_order.used m less in let k = in_order.within place within in omega (arith, is, k))
    (λ less. let (place, within, is) = in_order.used n less in let k = other_order.within place within in omega (arith, is, k))
  where
    less_or_more : (x y : ℕ) → ¬ (x < y) → ¬ (y < x) → x ≡ y
    less_or_more x y f g = omega (arith, f, g)

module _ (names : ConstantNames) (design : Design) (valid : IsValid design) (flat : FlatValue) (are : AreFlatClasses names design flat) where
  facts : SpotFacts design.cells design.top flat.spots
  facts = spot_facts design.cells design.top flat.spots are.are_spots

  -- a terminal stands for a node
  has_node : (t : Terminal) → Contains (terminals_of design.cells flat.spots flat.leaves) t → (x : FlatNode) × IsNodeOf design.cells flat.spots t x
  has_node t c = elim (Contains-append_cases _ (Zero ∷ One ∷ []) t c) [
    | inl front ↦ elim (Contains-append_cases _ _ t front) [
      | inl top ↦
          let (i, port, bit, there, lt, e) = from_bits (λ port bit. Port port bit) 0 (ports_at design.cells flat.spots 0) t top in
          (At [] (PortNode (0 + i) bit), subst (λ w. IsNodeOf design.cells flat.spots w (At [] (PortNode (0 + i) bit))) e of_port)
      | inr pins ↦
          let (leaf, member, there) = from_flat (λ leaf. bits_of_ports (λ port bit. Pin leaf port bit) 0 (ports_at design.cells flat.spots leaf)) (filter (λ leaf. not (leaf == 0)) flat.leaves) t pins in
          let (in_leaves, inner) = from_filter (λ leaf. not (leaf == 0)) flat.leaves leaf member in
          let h : IsLeafSpot names design.cells flat.spots leaf = (are.are_leaves.are leaf).0 in_leaves in
          let (path, at) = spot_has_path design valid flat.spots facts leaf h.of_cell.spot h.of_cell.is_spot in
          let (i, port, bit, is_port, lt, e) = from_bits (λ port bit. Pin leaf port bit) 0 (ports_at design.cells flat.spots leaf) t there in
          (At path (PortNode (0 + i) bit), subst (λ w. IsNodeOf design.cells flat.spots w (At path (PortNode (0 + i) bit))) e (of_pin at))
    ]
    | inr constants ↦ elim (first_or_rest Zero (One ∷ []) t constants) [
      | inl e ↦ (Constant false, subst (λ w. IsNodeOf design.cells flat.spots w (Constant false)) e of_zero)
      | inr rest ↦ elim (first_or_rest One [] t rest) [
        | inl e ↦ (Constant true, subst (λ w. IsNodeOf design.cells flat.spots w (Constant true)) e of_one)
        | inr none ↦ absurd (nothing_in t none)
      ]
    ]
  ]

  pub place_has_node : (place : ℕ) → place < length flat.terminals → (t : Terminal) × (slice_get flat.terminals place ≡ Some t) × (x : FlatNode) × IsNodeOf design.cells flat.spots t x
  place_has_node place lt =
      let t : Terminal = get_or flat.terminals place Zero in
      let there : slice_get flat.terminals place ≡ Some t = slice_get-get_or flat.terminals place Zero lt in
      let (x, is) = has_node t (contains_there (terminals_of design.cells flat.spots flat.leaves) place t (subst (λ ts. slice_get ts place ≡ Some t) are.are_terminals there)) in
      (t, there, x, is)

-- two values of flat classes are one
pub one_flat : (names : ConstantNames) (design : Design) → IsValid design → (a b : FlatValue) → AreFlatClasses names design a → AreFlatClasses names design b → a ≡ b
one_flat names design valid a b of_a of_b = whole a b spots leaves terminals groups count
  where
    spots : a.spots ≡ b.spots
    spots = one_walk of_a.are_spots of_b.are_spots

    leaves : a.leaves ≡ b.leaves
    leaves = one_rising a.leaves b.leaves of_a.are_leaves.in_order of_b.are_leaves.in_order (λ n. (
      λ c. (of_b.are_leaves.are n).1 (subst (λ ss. IsLeafSpot names design.cells ss n) spots ((of_a.are_leaves.are n).0 c)),
      λ c. (of_a.are_leaves.are n).1 (subst (λ ss. IsLeafSpot names design.cells ss n) (sym spots) ((of_b.are_leaves.are n).0 c)),
    ))

    terminals : a.terminals ≡ b.terminals
    terminals = of_a.are_terminals ∙ (subst₂ (λ ss ls. terminals_of design.cells a.spots a.leaves ≡ terminals_of design.cells ss ls) spots leaves refl ∙ sym of_b.are_terminals)

    agreed : AreAgreed a.groups b.groups
    agreed i j li lj =
        let (s, is_s, x, x_of) = place_has_node names design valid a of_a i (omega (arith, li, of_a.are_numbers.len)) in
        let (t, is_t, y, y_of) = place_has_node names design valid a of_a j (omega (arith, lj, of_a.are_numbers.len)) in
        let first = of_a.are_groups i j s t x y is_s is_t x_of y_of in
        let second = of_b.are_groups i j s t x y (subst (λ ts. slice_get ts i ≡ Some s) terminals is_s) (subst (λ ts. slice_get ts j ≡ Some t) terminals is_t) (subst (λ ss. IsNodeOf design.cells ss s x) spots x_of) (subst (λ ss. IsNodeOf design.cells ss t y) spots y_of) in
        (λ e. second.1 (first.0 e), λ e. first.1 (second.0 e))

    groups : a.groups ≡ b.groups
    groups = one_numbering a.groups b.groups a.count b.count (of_a.are_numbers.len ∙ (ap length terminals ∙ sym of_b.are_numbers.len)) of_a.are_numbers.in_order of_b.are_numbers.in_order agreed

    count : a.count ≡ b.count
    count = one_count b.groups a.count b.count (subst (λ gs. AreInOrder gs a.count) groups of_a.are_numbers.in_order) of_b.are_numbers.in_order

    whole : (u v : FlatValue) → u.spots ≡ v.spots → u.leaves ≡ v.leaves → u.terminals ≡ v.terminals → u.groups ≡ v.groups → u.count ≡ v.count → u ≡ v
    whole u v e f g h k =
        let with_spots : List Spot → FlatValue = λ s. record { spots = s; leaves = u.leaves; terminals = u.terminals; groups = u.groups; count = u.count } in
        let with_leaves : List ℕ → FlatValue = λ l. record { spots = v.spots; leaves = l; terminals = u.terminals; groups = u.groups; count = u.count } in
        let with_terminals : List Terminal → FlatValue = λ t. record { spots = v.spots; leaves = v.leaves; terminals = t; groups = u.groups; count = u.count } in
        let with_groups : List ℕ → FlatValue = λ l. record { spots = v.spots; leaves = v.leaves; terminals = v.terminals; groups = l; count = u.count } in
        let with_count : ℕ → FlatValue = λ n. record { spots = v.spots; leaves = v.leaves; terminals = v.terminals; groups = v.groups; count = n } in
        ap with_spots e ∙ (ap with_leaves f ∙ (ap with_terminals g ∙ (ap with_groups h ∙ ap with_count k)))
