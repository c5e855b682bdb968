-- what the parts of the flat classes give together
use Rattle.std.proofs.Common.{◌≡◌, ℕ, zero, suc, ◌+◌, ◌<◌, ◌≤◌, ◌^◌, inl, inr, List, [], ◌∷◌, ◌++◌, refl, sym, ◌∙◌, ap, subst, subst₂, slice_get, get_or, Some, None, Option, Bool, true, false, cond, not, is_none, ◌==◌, ◌&&◌, length, filter, sum_by, arith, All, Vec, Global}
use Rattle.std.specs.Prelude.{Contains}
use Rattle.std.specs.List.{flat_map, range_with_len}
use Rattle.std.proofs.lemmas.List.{length-append}
use Rattle.std.proofs.lemmas.Option.{slice_get-get_or, slice_get_within}
use Rattle.net_hier.specs.Cells.{IsPortBit, width_of}
use Rattle.net_hier.specs.Constants.{ConstantNames}
use Rattle.net_hier.specs.Design.{Design, IsCell}
use Rattle.net_hier.specs.Valid.{IsValid}
use Rattle.net_hier.specs.declared.cells.HCell.{HCell}
use Rattle.net_hier.specs.declared.cells.HPort.{HPort}
use Rattle.net_hier.specs.declared.nodes.Join.{Join}
use Rattle.flat_numbers.specs.FlatJoins.{AreCellLinks, AreJoinLabels, links_in}
use Rattle.flat_numbers.specs.Layout.{base_of}
use Rattle.flat_numbers.specs.Linked.{AreLabels, label}
use Rattle.flat_numbers.specs.Numbers.{CellOf, bits_before}
use Rattle.flat_numbers.specs.Tables.{AreSmall, AreTables}
use Rattle.flat_classes.specs.TerminalNumbers.{AreFlatLabels}
use Rattle.flat_numbers.specs.declared.spots.Spot.{Spot}
use Rattle.flat_numbers.specs.declared.walk.Layout.{Layout}
use Rattle.std.proofs.lemmas.List.Elements.{Contains-append_cases}
use Rattle.std.proofs.lemmas.Option.{get_or_from_slice_get}
use Rattle.net_hier.specs.Cells.{IsAnyConstantCell, IsLeaf}
use Rattle.flat_classes.specs.Kinds.{AreKinds}
use Rattle.flat_numbers.specs.Spots.{AreSpots, top_spot}
use Rattle.flat_classes.specs.TerminalNumbers.{AreNumbered, HaveLabels, TerminalNumber, zero_number, one_number, port_number, pin_number}
use Rattle.flat_classes.specs.Terminals.{AreFlatClasses, AreGroups, AreLeaves, IsLeafSpot, bits_of_ports, is_leaf_spot, leaf_spots, ports_at, terminals_of}
use Rattle.flat_classes.specs.declared.flat.Terminal.{Terminal}
use Rattle.flat_classes.specs.declared.flat.Terminal.TheVariants.{Port, Pin, Zero, One}
use Rattle.flat_classes.specs.declared.kinds.Kinds.{Kinds}
use Rattle.flat_classes.proofs.KindLaws.{first_or_rest, from_flat, in_range_list, nothing_in}
use Rattle.flat_classes.proofs.LeafLists.{all_of, bits_length, filter_filter, from_bits, from_filter, pins_long, to_filter}
use Rattle.flat_classes.proofs.GroupLaws.{groups_are}
use Rattle.flat_classes.specs.Groups.{AreGroupNumbers, AreSame}
use Rattle.std.specs.Prelude.{slice_index}
use Rattle.flat_numbers.proofs.SpotLaws.{listed_cells}
use Rattle.flat_classes.proofs.TerminalLaws.{ports_read}
use Rattle.flat_numbers.proofs.Linking.{contains_there}
use Rattle.flat_numbers.proofs.Bounds.{room}
use Rattle.flat_numbers.proofs.SpotLaws.{SpotFacts, spot_facts}
use Rattle.flat_classes.proofs.TerminalLaws.{terminal_below}
use Rattle.net_hier.proofs.PathLaws.{element_there}
use Rattle.flat_numbers.proofs.Whole.{labels_connected}

clash_none : (o : Option Bool) (value : Bool) → is_none o ≡ true → o ≡ Some value → ⊥
clash_none None value e f = cc
clash_none (Some v) value e f = cc

both_true : (a b : Bool) → (a && b) ≡ true → (a ≡ true) × (b ≡ true)
both_true true b e = (refl, e)
both_true false b e = absurd (cc)

true_both : (a b : Bool) → a ≡ true → b ≡ true → (a && b) ≡ true
true_both true b e f = f
true_both false b e f = absurd (cc)

zero_plus : (n : ℕ) → 0 + n ≡ n
zero_plus n = omega arith

-- the numbers of a range that are kept stand in their order
least_kept : (p : ℕ → Bool) (n a i x : ℕ) → slice_get (filter p (range_with_len a n)) i ≡ Some x → a ≤ x
least_kept p zero a i x e = absurd (cc)
least_kept p (suc n) a i x e = by (p a) i e (λ j f. least_kept p n (a + 1) j x f)
  where
    by : (b : Bool) (i : ℕ) → slice_get (cond b (a ∷ filter p (range_with_len (a + 1) n)) (filter p (range_with_len (a + 1) n))) i ≡ Some x → ((j : ℕ) → slice_get (filter p (range_with_len (a + 1) n)) j ≡ Some x → a + 1 ≤ x) → a ≤ x
    by true zero f rest = let q : a ≡ x = cc in omega (arith, q)
    by true (suc i) f rest = let r = rest i f in omega (arith, r)
    by false i f rest = let r = rest i f in omega (arith, r)

pub filtered_range : (p : ℕ → Bool) (n a i j x y : ℕ) → i < j → slice_get (filter p (range_with_len a n)) i ≡ Some x → slice_get (filter p (range_with_len a n)) j ≡ Some y → x < y
filtered_range p zero a i j x y lt e f = absurd (cc)
filtered_range p (suc n) a i j x y lt e f = by (p a) i j lt e f (λ k l less g h. filtered_range p n (a + 1) k l x y less g h) (λ k g. least_kept p n (a + 1) k y g)
  where
    by : (b : Bool) (i j : ℕ) → i < j → slice_get (cond b (a ∷ filter p (range_with_len (a + 1) n)) (filter p (range_with_len (a + 1) n))) i ≡ Some x → slice_get (cond b (a ∷ filter p (range_with_len (a + 1) n)) (filter p (range_with_len (a + 1) n))) j ≡ Some y →
        ((k l : ℕ) → k < l → slice_get (filter p (range_with_len (a + 1) n)) k ≡ Some x → slice_get (filter p (range_with_len (a + 1) n)) l ≡ Some y → x < y) → ((k : ℕ) → slice_get (filter p (range_with_len (a + 1) n)) k ≡ Some y → a + 1 ≤ y) → x < y
    by true zero zero less g h rest least = absurd (omega (arith, less))
    by true zero (suc j) less g h rest least = let q : a ≡ x = cc in let r = least j h in omega (arith, q, r)
    by true (suc i) zero less g h rest least = absurd (omega (arith, less))
    by true (suc i) (suc j) less g h rest least = rest i j (omega (arith, less)) g h
    by false i j less g h rest least = rest i j less g h

module _ (names : ConstantNames) (design : Design) (valid : IsValid design) (count : ℕ) (layout : Layout) (belows offsets : List (List ℕ)) (tables : AreTables design.cells design.top count layout belows offsets) where
  facts : SpotFacts design.cells design.top layout.spots.items
  facts = spot_facts design.cells design.top layout.spots.items tables.is_layout.are_spots

  -- the labels of a design's numbers
  pub flat_labels : (rows read : List (Vec Join Global)) (labels : List ℕ) → read ≡ rows → AreCellLinks design.cells rows →
      AreJoinLabels names design.cells layout.spots.items (base_of layout.bases.items layout.count) (links_in design.cells read) layout.count labels →
      AreFlatLabels names design layout.spots.items (base_of layout.bases.items layout.count) layout.count labels
  flat_labels rows read labels e links are =
      let here : AreJoinLabels names design.cells layout.spots.items (base_of layout.bases.items layout.count) (links_in design.cells rows) layout.count labels = subst (λ r. AreJoinLabels names design.cells layout.spots.items (base_of layout.bases.items layout.count) (links_in design.cells r) layout.count labels) e are in
      let labelled : AreLabels layout.count here.joins labels = here.are_labels in
      record {
        len = labelled.len;
        below = labelled.below;
        connected = λ x y u v hx hy. labels_connected names design valid layout.spots.items facts (base_of layout.bases.items layout.count) layout.count tables.is_layout.are_bases (room design count layout belows offsets tables) (links_in design.cells rows) links.are here.joins here.are_joins labels labelled x y u v hx hy;
      }

  pub first_spot : slice_get layout.spots.items 0 ≡ Some (top_spot design.top)
  first_spot = facts.first

  -- the labels of terminals are below the count
  pub labels_below : (labels : List ℕ) → AreFlatLabels names design layout.spots.items (base_of layout.bases.items layout.count) layout.count labels → (terminals : List Terminal) (found : List ℕ) → AreNumbered design.cells layout.spots.items (base_of layout.bases.items layout.count) terminals →
      HaveLabels design.cells layout.spots.items (base_of layout.bases.items layout.count) labels terminals found → All (λ value. value < layout.count) found
  labels_below labels are terminals found numbered have k d lt =
      let place : k < length terminals = omega (arith, lt, have.len) in
      let (t, there) = element_there terminals k place in
      let (u, n) = numbered k t there in
      let e : get_or found k d ≡ label labels u = get_or_from_slice_get found k (label labels u) d (have.are k t u there n) in
      let b = are.below u (terminal_below design count layout belows offsets tables t u n) in
      omega (arith, e, b)

  known_at : (number : ℕ) (spot : Spot) → slice_get layout.spots.items number ≡ Some spot → (cell : HCell) × IsCell design.cells spot.cell cell
  known_at number spot e = listed_cells tables.is_layout.are_spots number spot e

  -- the spots of the tables' leaves are those of the leaves that are no constant cells
  module _ (kinds : Kinds) (are : AreKinds names design.cells kinds) where
    abbrev pub leaves : List ℕ
    leaves = leaf_spots layout.spots.items kinds.leaves.items kinds.constants.items

    mark_leaf : (number : ℕ) (cell : HCell) → IsCell design.cells number cell → get_or kinds.leaves.items number false ≡ true → IsLeaf cell
    mark_leaf number cell is e =
        let lt = slice_get_within design.cells number cell is in
        (are.leaves.are number cell is).0 (slice_get-get_or kinds.leaves.items number false (omega (arith, lt, are.leaves.len)) ∙ ap Some e)

    leaf_mark : (number : ℕ) (cell : HCell) → IsCell design.cells number cell → IsLeaf cell → get_or kinds.leaves.items number false ≡ true
    leaf_mark number cell is leaf = get_or_from_slice_get kinds.leaves.items number true false ((are.leaves.are number cell is).1 leaf)

    mark_none : (number : ℕ) (cell : HCell) → IsCell design.cells number cell → is_none (get_or kinds.constants.items number None) ≡ true → ¬ IsAnyConstantCell names cell
    mark_none number cell is e any =
        let value : Bool = any.0 in
        let there = (are.constants.are number cell value is).1 any.1 in
        clash_none (get_or kinds.constants.items number None) value e (get_or_from_slice_get kinds.constants.items number (Some value) None there)

    none_mark : (number : ℕ) (cell : HCell) → IsCell design.cells number cell → ¬ IsAnyConstantCell names cell → is_none (get_or kinds.constants.items number None) ≡ true
    none_mark number cell is free =
        let lt = slice_get_within design.cells number cell is in
        let there = slice_get-get_or kinds.constants.items number None (omega (arith, lt, are.constants.len)) in
        by (get_or kinds.constants.items number None) there
      where
        by : (o : Option Bool) → slice_get kinds.constants.items number ≡ Some o → is_none o ≡ true
        by None e = refl
        by (Some value) e = absurd (free (value, (are.constants.are number cell value is).0 e))

    leaf_there : (number : ℕ) → is_leaf_spot kinds.leaves.items kinds.constants.items (slice_get layout.spots.items number) ≡ true → IsLeafSpot names design.cells layout.spots.items number
    leaf_there number t = by (slice_get layout.spots.items number) refl t
      where
        by : (o : Option Spot) → slice_get layout.spots.items number ≡ o → is_leaf_spot kinds.leaves.items kinds.constants.items o ≡ true → IsLeafSpot names design.cells layout.spots.items number
        by None e h = absurd (cc)
        by (Some spot) e h =
            let (cell, is) = known_at number spot e in
            let b = both_true (get_or kinds.leaves.items spot.cell false) (is_none (get_or kinds.constants.items spot.cell None)) h in
            record { cell = cell; of_cell = record { spot = spot; is_spot = e; is_cell = is }; is_leaf = mark_leaf spot.cell cell is b.0; no_constant = mark_none spot.cell cell is b.1 }

    there_leaf : (number : ℕ) → IsLeafSpot names design.cells layout.spots.items number → is_leaf_spot kinds.leaves.items kinds.constants.items (slice_get layout.spots.items number) ≡ true
    there_leaf number h =
        let of : CellOf design.cells layout.spots.items number h.cell = h.of_cell in
        ap (is_leaf_spot kinds.leaves.items kinds.constants.items) of.is_spot ∙ true_both (get_or kinds.leaves.items of.spot.cell false) (is_none (get_or kinds.constants.items of.spot.cell None)) (leaf_mark of.spot.cell h.cell of.is_cell h.is_leaf) (none_mark of.spot.cell h.cell of.is_cell h.no_constant)

    pub leaves_are : AreLeaves names design.cells layout.spots.items leaves
    leaves_are = record {
      are = λ number. (
        λ c. leaf_there number (from_filter (λ n. is_leaf_spot kinds.leaves.items kinds.constants.items (slice_get layout.spots.items n)) (range_with_len 0 (length layout.spots.items)) number c).1,
        λ h.
            let of : CellOf design.cells layout.spots.items number h.cell = h.of_cell in
            let lt = slice_get_within layout.spots.items number of.spot of.is_spot in
            to_filter (λ n. is_leaf_spot kinds.leaves.items kinds.constants.items (slice_get layout.spots.items n)) (range_with_len 0 (length layout.spots.items)) number (subst (Contains (range_with_len 0 (length layout.spots.items))) (zero_plus number) (in_range_list (length layout.spots.items) 0 number lt)) (there_leaf number h),
      );
      in_order = λ i j a b lt e f. filtered_range (λ n. is_leaf_spot kinds.leaves.items kinds.constants.items (slice_get layout.spots.items n)) (length layout.spots.items) 0 i j a b lt e f;
    }

    pub leaves_of_cells : All (λ leaf. (cell : HCell) × CellOf design.cells layout.spots.items leaf cell) leaves
    leaves_of_cells = all_of (λ leaf. (cell : HCell) × CellOf design.cells layout.spots.items leaf cell) leaves (λ leaf c. let h = (leaves_are.are leaf).0 c in (h.cell, h.of_cell))

    -- each terminal has a number
    port_there : (spot : ℕ) (cell : HCell) → CellOf design.cells layout.spots.items spot cell → (i : ℕ) (port : HPort) (bit : ℕ) → slice_get (ports_at design.cells layout.spots.items spot) i ≡ Some port → bit < width_of port.range → IsPortBit cell i bit
    port_there spot cell of i port bit e lt = record { the_port = port; is_there = subst (λ ps. slice_get ps i ≡ Some port) (ports_read design.cells layout.spots.items spot cell of) e; within = lt }

    top_cell : (cell : HCell) × CellOf design.cells layout.spots.items 0 cell
    top_cell = let (cell, is) = known_at 0 (top_spot design.top) facts.first in (cell, record { spot = top_spot design.top; is_spot = facts.first; is_cell = is })

    zero_first : (i : ℕ) → i ≡ 0 + i
    zero_first i = omega arith

    port_numbered : (cell : HCell) (of : CellOf design.cells layout.spots.items 0 cell) (i bit : ℕ) → IsPortBit cell (0 + i) bit → (t : Terminal) → Port (0 + i) bit ≡ t → (u : ℕ) × TerminalNumber design.cells layout.spots.items (base_of layout.bases.items layout.count) t u
    port_numbered cell of i bit is t e = (base_of layout.bases.items layout.count 0 + (bits_before cell.ports (0 + i) + bit), subst (λ w. TerminalNumber design.cells layout.spots.items (base_of layout.bases.items layout.count) w (base_of layout.bases.items layout.count 0 + (bits_before cell.ports (0 + i) + bit))) e (port_number of is))

    pin_numbered : (leaf : ℕ) (cell : HCell) (of : CellOf design.cells layout.spots.items leaf cell) (i bit : ℕ) → IsPortBit cell (0 + i) bit → (t : Terminal) → Pin leaf (0 + i) bit ≡ t → (u : ℕ) × TerminalNumber design.cells layout.spots.items (base_of layout.bases.items layout.count) t u
    pin_numbered leaf cell of i bit is t e = (base_of layout.bases.items layout.count leaf + (bits_before cell.ports (0 + i) + bit), subst (λ w. TerminalNumber design.cells layout.spots.items (base_of layout.bases.items layout.count) w (base_of layout.bases.items layout.count leaf + (bits_before cell.ports (0 + i) + bit))) e (pin_number of is))

    terminal_number_of : (t : Terminal) → Contains (terminals_of design.cells layout.spots.items leaves) t → (u : ℕ) × TerminalNumber design.cells layout.spots.items (base_of layout.bases.items layout.count) t u
    terminal_number_of t c = elim (Contains-append_cases _ (Zero ∷ One ∷ []) t c) [
      | inl front ↦ elim (Contains-append_cases _ _ t front) [
        | inl top ↦
            let (i, port, bit, there, lt, e) = from_bits (λ port bit. Port port bit) 0 (ports_at design.cells layout.spots.items 0) t top in
            let (cell, of) = top_cell in
            let is : IsPortBit cell (0 + i) bit = subst (λ n. IsPortBit cell n bit) (zero_first i) (port_there 0 cell of i port bit there lt) in
            port_numbered cell of i bit is t e
        | inr pins ↦
            let (leaf, member, there) = from_flat (λ leaf. bits_of_ports (λ port bit. Pin leaf port bit) 0 (ports_at design.cells layout.spots.items leaf)) (filter (λ leaf. not (leaf == 0)) leaves) t pins in
            let (in_leaves, inner) = from_filter (λ leaf. not (leaf == 0)) leaves leaf member in
            let h = (leaves_are.are leaf).0 in_leaves in
            let (i, port, bit, at, lt, e) = from_bits (λ port bit. Pin leaf port bit) 0 (ports_at design.cells layout.spots.items leaf) t there in
            let is : IsPortBit h.cell (0 + i) bit = subst (λ n. IsPortBit h.cell n bit) (zero_first i) (port_there leaf h.cell h.of_cell i port bit at lt) in
            pin_numbered leaf h.cell h.of_cell i bit is t e
      ]
      | inr constants ↦ elim (first_or_rest Zero (One ∷ []) t constants) [
        | inl e ↦ (0, subst (λ w. TerminalNumber design.cells layout.spots.items (base_of layout.bases.items layout.count) w 0) e zero_number)
        | inr rest ↦ elim (first_or_rest One [] t rest) [
          | inl e ↦ (1, subst (λ w. TerminalNumber design.cells layout.spots.items (base_of layout.bases.items layout.count) w 1) e one_number)
          | inr none ↦ absurd (nothing_in t none)
        ]
      ]
    ]

    pub terminals_numbered : AreNumbered design.cells layout.spots.items (base_of layout.bases.items layout.count) (terminals_of design.cells layout.spots.items leaves)
    terminals_numbered place t e = terminal_number_of t (contains_there (terminals_of design.cells layout.spots.items leaves) place t e)

    -- there are few terminals
    pub terminals_few : count ≤ 2000000 → AreSmall design.cells → length (terminals_of design.cells layout.spots.items leaves) < 2 ^ 32
    terminals_few few small =
        let base : ℕ → ℕ = base_of layout.bases.items layout.count in
        let p : ℕ → Bool = λ n. is_leaf_spot kinds.leaves.items kinds.constants.items (slice_get layout.spots.items n) in
        let q : ℕ → Bool = λ n. not (n == 0) in
        let make : ℕ → ℕ → ℕ → Terminal = λ leaf port bit. Pin leaf port bit in
        let list : ℕ → List Terminal = λ leaf. bits_of_ports (make leaf) 0 (ports_at design.cells layout.spots.items leaf) in
        let front : List Terminal = bits_of_ports (λ port bit. Port port bit) 0 (ports_at design.cells layout.spots.items 0) in
        let (cell, of) = top_cell in
        let s = small of.spot.cell cell of.is_cell in
        let a = bits_length {A = Terminal} (λ port bit. Port port bit) 0 (ports_at design.cells layout.spots.items 0) in
        let b = ap (sum_by (λ (port : HPort). width_of port.range)) (ports_read design.cells layout.spots.items 0 cell of) in
        let rest = pins_long design.cells layout.spots.items base layout.count tables.is_layout.are_bases known_at make (λ n. p n && q n) (length layout.spots.items) (omega arith) in
        let both = ap (λ xs. length (flat_map list xs)) (filter_filter p q (range_with_len 0 (length layout.spots.items))) in
        let one = length-append front (flat_map list (filter q leaves)) in
        let two = length-append (front ++ flat_map list (filter q leaves)) (Zero ∷ One ∷ []) in
        omega (arith, s, a, b, rest, both, one, two, few, tables.is_layout.are_bases.last, tables.is_layout.few)

    -- the parts together
    pub flat_whole : (labels : List ℕ) → AreFlatLabels names design layout.spots.items (base_of layout.bases.items layout.count) layout.count labels → (spots : List Spot) (listed : List ℕ) (terminals : List Terminal) (found groups : List ℕ) →
        spots ≡ layout.spots.items → listed ≡ leaves → terminals ≡ terminals_of design.cells layout.spots.items leaves → HaveLabels design.cells layout.spots.items (base_of layout.bases.items layout.count) labels terminals found → AreSame found groups →
        (n : ℕ) → AreGroupNumbers groups n (length terminals) → AreFlatClasses names design (record { spots = spots; leaves = listed; terminals = terminals; groups = groups; count = n })
    flat_whole labels are_labels spots listed terminals found groups s l t have same n are_numbers =
        let numbered : AreNumbered design.cells layout.spots.items (base_of layout.bases.items layout.count) terminals = subst (AreNumbered design.cells layout.spots.items (base_of layout.bases.items layout.count)) (sym t) terminals_numbered in
        let groups_of : AreGroups names design layout.spots.items terminals (slice_index groups) = groups_are names design valid layout.spots.items facts (base_of layout.bases.items layout.count) layout.count tables.is_layout.are_bases labels are_labels terminals groups found numbered have same in
        record {
          are_spots = subst (AreSpots design) (sym s) tables.is_layout.are_spots;
          are_leaves = subst₂ (AreLeaves names design.cells) (sym s) (sym l) leaves_are;
          are_terminals = t ∙ subst₂ (λ ss ls. terminals_of design.cells layout.spots.items leaves ≡ terminals_of design.cells ss ls) (sym s) (sym l) refl;
          are_groups = subst (λ ss. AreGroups names design ss terminals (slice_index groups)) (sym s) groups_of;
          are_numbers = are_numbers;
        }
