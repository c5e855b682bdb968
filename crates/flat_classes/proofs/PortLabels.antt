-- the labels of the port bits of a spot lie one behind the other
use Rattle.std.proofs.Common.{◌≡◌, ℕ, zero, suc, ◌+◌, ◌-◌, ◌<◌, ◌≤◌, inl, inr, List, [], ◌∷◌, ◌++◌, refl, sym, ◌∙◌, ap, subst, subst₂, slice_get, get_or, Some, true, false, length, map, min, take, drop, sum_by, not, ◌==◌, arith}
use Rattle.std.specs.List.{range_with_len}
use Rattle.std.proofs.lemmas.List.{append-nil, append_assoc, length-append, length-map}
use Rattle.std.proofs.lemmas.List.Edits.{length-between}
use Rattle.std.proofs.lemmas.List.FromFn.{length-range_with_len}
use Rattle.std.proofs.Math.Nat.{min-eq_right}
use Rattle.std.proofs.lemmas.Grind.{get_or_default_zero}
use Rattle.std.proofs.lemmas.Option.{get_or_from_slice_get, slice_get-get_or, slice_get_within}
use Rattle.net_graph.proofs.OrderLaws.{get_front}
use Rattle.net_hier.specs.Cells.{width_of}
use Rattle.net_hier.specs.Design.{Design, IsCell}
use Rattle.net_hier.specs.Units.{port_bits}
use Rattle.net_hier.specs.declared.cells.HCell.{HCell}
use Rattle.net_hier.specs.declared.cells.HPort.{HPort}
use Rattle.flat_numbers.specs.Layout.{base_of}
use Rattle.flat_numbers.specs.Linked.{label}
use Rattle.flat_numbers.specs.Numbers.{CellOf, bits_before}
use Rattle.flat_numbers.specs.Spots.{top_spot}
use Rattle.flat_numbers.specs.Tables.{AreTables}
use Rattle.flat_numbers.specs.declared.spots.Spot.{Spot}
use Rattle.flat_numbers.specs.declared.walk.Layout.{Layout}
use Rattle.flat_numbers.proofs.Finding.{port_is}
use Rattle.flat_numbers.proofs.Places.{base_after}
use Rattle.flat_numbers.proofs.Rows.{dropped_there, taken_there}
use Rattle.flat_numbers.proofs.SpotLaws.{SpotFacts, get_behind, in_either, listed_cells, spot_facts}
use Rattle.flat_classes.specs.TerminalNumbers.{HaveLabels, TerminalNumber, port_labels}
use Rattle.flat_classes.specs.Terminals.{bits_of_ports, ports_at}
use Rattle.flat_classes.specs.declared.flat.Terminal.{Terminal}
use Rattle.flat_classes.specs.declared.flat.Terminal.TheVariants.{Port, Pin, Zero, One}
use Rattle.flat_classes.proofs.GroupLists.{flat_filter_taken}
use Rattle.flat_classes.proofs.LeafLists.{bits_length}
use Rattle.flat_classes.proofs.TerminalLaws.{inner_pins, is_inner, is_top, one_terminal, pin_terminal, pins_of, port_terminal, ports_read, zero_terminal}

-- ---- where a bit stands among the bits of ports
mapped : {A : Type 0} (f : ℕ → A) (n a k : ℕ) (t : A) → slice_get (map f (range_with_len a n)) k ≡ Some t → (k < n) × (f (a + k) ≡ t)
mapped f zero a k t e = absurd (cc)
mapped f (suc n) a zero t e = let p : f a ≡ t = cc in let z : a + 0 ≡ a = omega arith in (omega arith, ap f z ∙ p)
mapped f (suc n) a (suc k) t e =
    let r = mapped f n (a + 1) k t e in
    let l : k < n = r.0 in
    let z : a + suc k ≡ (a + 1) + k = omega arith in
    (omega (arith, l), ap f z ∙ r.1)

-- the bit at a place, and how many bits stand before it
record BitAt {A : Type 0} (make : ℕ → ℕ → A) (first : ℕ) (ports : List HPort) (place : ℕ) (t : A) : Type 0 where
  pub port : ℕ
  pub bit : ℕ
  pub is : make (first + port) bit ≡ t
  pub place_is : place ≡ bits_before ports port + bit

bit_at : {A : Type 0} (make : ℕ → ℕ → A) (first : ℕ) (ports : List HPort) (place : ℕ) (t : A) → slice_get (bits_of_ports make first ports) place ≡ Some t → BitAt make first ports place t
bit_at make first [] place t e = absurd (cc)
bit_at make first (port ∷ ports) place t e = elim (in_either (map (make first) (range_with_len 0 (width_of port.range))) (bits_of_ports make (suc first) ports) place t e) [
  | inl f ↦
      let r = mapped (make first) (width_of port.range) 0 place t f in
      let z : 0 + place ≡ place = omega arith in
      let m : make first place ≡ t = ap (make first) (sym z) ∙ r.1 in
      record { port = 0; bit = place; is = ap (λ n. make n place) (and_zero first) ∙ m; place_is = omega arith }
  | inr (j, p, f) ↦
      let h = bit_at make (suc first) ports j t f in
      let l = length-map (range_with_len 0 (width_of port.range)) (make first) in
      let k = length-range_with_len 0 (width_of port.range) in
      record { port = suc h.port; bit = h.bit; is = ap (λ n. make n h.bit) (one_on first h.port) ∙ h.is; place_is = omega (arith, p, l, k, h.place_is) }
]
  where
    and_zero : (n : ℕ) → n + 0 ≡ n
    and_zero n = omega arith

    one_on : (n i : ℕ) → n + suc i ≡ suc n + i
    one_on n i = omega arith

module _ (cells : List HCell) (spots : List Spot) (base : ℕ → ℕ) (labels : List ℕ) where
  -- the labels of two lists of terminals
  pub labels_both : (ts us : List Terminal) (fs gs : List ℕ) → HaveLabels cells spots base labels ts fs → HaveLabels cells spots base labels us gs → HaveLabels cells spots base labels (ts ++ us) (fs ++ gs)
  labels_both ts us fs gs a b = record {
    len = let p = length-append fs gs in let q = length-append ts us in omega (arith, p, q, a.len, b.len);
    are = λ place t u at n. elim (in_either ts us place t at) as (λ _. slice_get (fs ++ gs) place ≡ Some (label labels u)) [
      | inl f ↦ get_front fs gs place (label labels u) (a.are place t u f n)
      | inr (j, p, f) ↦
          let q : length fs + j ≡ place = omega (arith, p, a.len) in
          subst (λ k. slice_get (fs ++ gs) k ≡ Some (label labels u)) q (get_behind fs gs j (label labels u) (b.are j t u f n))
    ];
  }

  -- the port bits of a spot
  ports_labelled : (spot : ℕ) (make : ℕ → ℕ → Terminal) → ((port bit u : ℕ) → TerminalNumber cells spots base (make port bit) u → u ≡ base spot + (bits_before (ports_at cells spots spot) port + bit)) →
      base spot + sum_by (λ (port : HPort). width_of port.range) (ports_at cells spots spot) ≤ length labels → HaveLabels cells spots base labels (bits_of_ports make 0 (ports_at cells spots spot)) (port_labels cells spots base labels spot)
  ports_labelled spot make told fits =
      let bits : ℕ = sum_by (λ (port : HPort). width_of port.range) (ports_at cells spots spot) in
      let long = bits_length make 0 (ports_at cells spots spot) in
      record {
        len = let l = length-between labels (base spot) (base spot + bits) fits in omega (arith, l, long);
        are = λ place t u at n.
            let h = bit_at make 0 (ports_at cells spots spot) place t at in
            let z : 0 + h.port ≡ h.port = omega arith in
            let is : make h.port h.bit ≡ t = ap (λ k. make k h.bit) (sym z) ∙ h.is in
            let e = told h.port h.bit u (subst (λ w. TerminalNumber cells spots base w u) (sym is) n) in
            let lt = slice_get_within (bits_of_ports make 0 (ports_at cells spots spot)) place t at in
            let q : base spot + place ≡ u = omega (arith, e, h.place_is) in
            let there : slice_get labels u ≡ Some (label labels u) = slice_get-get_or labels u 0 (omega (arith, q, lt, long, fits)) in
            taken_there (drop (base spot) labels) (base spot + bits - base spot) place (label labels u) (omega (arith, lt, long))
            (dropped_there labels (base spot) place (label labels u) (subst (λ k. slice_get labels k ≡ Some (label labels u)) (sym q) there));
      }

  port_told : (port bit u : ℕ) → TerminalNumber cells spots base (Port port bit) u → u ≡ base 0 + (bits_before (ports_at cells spots 0) port + bit)
  port_told port bit u n =
      let at = port_terminal cells spots base port bit u n in
      port_is cells spots base 0 at.cell port bit u at.node_number ∙ ap (λ ps. base 0 + (bits_before ps port + bit)) (sym (ports_read cells spots 0 at.cell at.of_cell))

  pin_told : (leaf port bit u : ℕ) → TerminalNumber cells spots base (Pin leaf port bit) u → u ≡ base leaf + (bits_before (ports_at cells spots leaf) port + bit)
  pin_told leaf port bit u n =
      let at = pin_terminal cells spots base leaf port bit u n in
      port_is cells spots base leaf at.cell port bit u at.node_number ∙ ap (λ ps. base leaf + (bits_before ps port + bit)) (sym (ports_read cells spots leaf at.cell at.of_cell))

  pub top_labelled : base 0 + sum_by (λ (port : HPort). width_of port.range) (ports_at cells spots 0) ≤ length labels → HaveLabels cells spots base labels (bits_of_ports (λ port bit. Port port bit) 0 (ports_at cells spots 0)) (port_labels cells spots base labels 0)
  top_labelled fits = ports_labelled 0 (λ port bit. Port port bit) port_told fits

  pub leaf_labelled : (leaf : ℕ) → base leaf + sum_by (λ (port : HPort). width_of port.range) (ports_at cells spots leaf) ≤ length labels → HaveLabels cells spots base labels (pins_of cells spots leaf) (port_labels cells spots base labels leaf)
  leaf_labelled leaf fits = ports_labelled leaf (λ port bit. Pin leaf port bit) (pin_told leaf) fits

  -- one leaf more
  pub labels_added : (leaves : List ℕ) (i : ℕ) (front : List Terminal) (found more : List ℕ) → i < length leaves → ¬ (get_or leaves i 0 ≡ 0) →
      base (get_or leaves i 0) + sum_by (λ (port : HPort). width_of port.range) (ports_at cells spots (get_or leaves i 0)) ≤ length labels →
      more ≡ found ++ port_labels cells spots base labels (get_or leaves i 0) → HaveLabels cells spots base labels (front ++ inner_pins cells spots (take i leaves)) found →
      HaveLabels cells spots base labels (front ++ inner_pins cells spots (take (i + 1) leaves)) more
  labels_added leaves i front found more lt differ fits e have =
      let s = flat_filter_taken (pins_of cells spots) (λ leaf. not (leaf == 0)) leaves i 0 true lt (is_inner (get_or leaves i 0) differ) in
      let both = labels_both (front ++ inner_pins cells spots (take i leaves)) (pins_of cells spots (get_or leaves i 0)) found (port_labels cells spots base labels (get_or leaves i 0)) have (leaf_labelled (get_or leaves i 0) fits) in
      let a = append_assoc front (inner_pins cells spots (take i leaves)) (pins_of cells spots (get_or leaves i 0)) ∙ ap (λ w. front ++ w) (sym s) in
      subst₂ (HaveLabels cells spots base labels) a (sym e) both

  pub labels_passed : (leaves : List ℕ) (i : ℕ) (front : List Terminal) (found more : List ℕ) → i < length leaves → get_or leaves i 0 ≡ 0 → more ≡ found → HaveLabels cells spots base labels (front ++ inner_pins cells spots (take i leaves)) found →
      HaveLabels cells spots base labels (front ++ inner_pins cells spots (take (i + 1) leaves)) more
  labels_passed leaves i front found more lt top e have =
      let s = flat_filter_taken (pins_of cells spots) (λ leaf. not (leaf == 0)) leaves i 0 false lt (is_top (get_or leaves i 0) top) in
      subst₂ (λ ps fs. HaveLabels cells spots base labels (front ++ ps) fs) (sym (s ∙ append-nil (inner_pins cells spots (take i leaves)))) (sym e) have

  -- the constants
  constants_labelled : HaveLabels cells spots base labels (Zero ∷ One ∷ []) (label labels 0 ∷ label labels 1 ∷ [])
  constants_labelled = record { len = refl; are = constant_at }
    where
      constant_at : (place : ℕ) (t : Terminal) (u : ℕ) → slice_get (Zero ∷ One ∷ []) place ≡ Some t → TerminalNumber cells spots base t u → slice_get (label labels 0 ∷ label labels 1 ∷ []) place ≡ Some (label labels u)
      constant_at zero t u e n = let p : Zero ≡ t = cc in ap (λ k. Some (label labels k)) (zero_terminal cells spots base u (subst (λ w. TerminalNumber cells spots base w u) (sym p) n))
      constant_at (suc zero) t u e n = let p : One ≡ t = cc in ap (λ k. Some (label labels k)) (one_terminal cells spots base u (subst (λ w. TerminalNumber cells spots base w u) (sym p) n))
      constant_at (suc (suc place)) t u e n = absurd (cc)

  pub labels_whole : (ts : List Terminal) (found more all : List ℕ) (zero_label one_label : ℕ) → zero_label ≡ label labels 0 → one_label ≡ label labels 1 → more ≡ found ++ zero_label ∷ [] → all ≡ more ++ one_label ∷ [] →
      HaveLabels cells spots base labels ts found → HaveLabels cells spots base labels (ts ++ Zero ∷ One ∷ []) all
  labels_whole ts found more all zero_label one_label p q e f have =
      let both = labels_both ts (Zero ∷ One ∷ []) found (label labels 0 ∷ label labels 1 ∷ []) have constants_labelled in
      let a : all ≡ found ++ zero_label ∷ one_label ∷ [] = f ∙ (ap (λ w. w ++ one_label ∷ []) e ∙ append_assoc found (zero_label ∷ []) (one_label ∷ [])) in
      let b : found ++ zero_label ∷ one_label ∷ [] ≡ found ++ label labels 0 ∷ label labels 1 ∷ [] = ap (λ w. found ++ w ∷ one_label ∷ []) p ∙ ap (λ w. found ++ label labels 0 ∷ w ∷ []) q in
      subst (HaveLabels cells spots base labels (ts ++ Zero ∷ One ∷ [])) (sym (a ∙ b)) both

-- the cell at the top
pub top_cell : (design : Design) (count : ℕ) (layout : Layout) (belows offsets : List (List ℕ)) → AreTables design.cells design.top count layout belows offsets → (cell : HCell) × CellOf design.cells layout.spots.items 0 cell
top_cell design count layout belows offsets tables =
    let facts : SpotFacts design.cells design.top layout.spots.items = spot_facts design.cells design.top layout.spots.items tables.is_layout.are_spots in
    let (cell, is) = listed_cells tables.is_layout.are_spots 0 (top_spot design.top) facts.first in
    (cell, record { spot = top_spot design.top; is_spot = facts.first; is_cell = is })

-- the numbers of a spot's port bits are below the count
pub ports_fit : (design : Design) (count : ℕ) (layout : Layout) (belows offsets : List (List ℕ)) → AreTables design.cells design.top count layout belows offsets → (spot : ℕ) (cell : HCell) → CellOf design.cells layout.spots.items spot cell →
    base_of layout.bases.items layout.count spot + sum_by (λ (port : HPort). width_of port.range) (ports_at design.cells layout.spots.items spot) ≤ layout.count
ports_fit design count layout belows offsets tables spot cell of =
    let base : ℕ → ℕ = base_of layout.bases.items layout.count in
    let known : (number : ℕ) (other : Spot) → slice_get layout.spots.items number ≡ Some other → (c : HCell) × IsCell design.cells other.cell c = λ number other e. listed_cells tables.is_layout.are_spots number other e in
    let lt = slice_get_within layout.spots.items spot of.spot of.is_spot in
    let a = base_after design.cells layout.spots.items base layout.count tables.is_layout.are_bases known spot (length layout.spots.items) cell of lt (omega arith) in
    let p = ap (sum_by (λ (port : HPort). width_of port.range)) (ports_read design.cells layout.spots.items spot cell of) in
    omega (arith, a, p, tables.is_layout.are_bases.last)

-- what the code has read: the first number of a spot, and how many port bits its cell has
pub bits_read : (design : Design) (count : ℕ) (layout : Layout) (belows offsets : List (List ℕ)) → AreTables design.cells design.top count layout belows offsets → count ≤ 2000000 → (spot : ℕ) (cell : HCell) → CellOf design.cells layout.spots.items spot cell →
    (at : Spot) (all : List HCell) (read : HCell) (from bits : ℕ) → all ≡ design.cells → at ≡ get_or layout.spots.items spot at → read ≡ get_or all at.cell read → from ≡ get_or layout.bases.items spot from → bits ≡ min 18446744073709551615 (port_bits read) →
    (from ≡ base_of layout.bases.items layout.count spot) × (bits ≡ sum_by (λ (port : HPort). width_of port.range) (ports_at design.cells layout.spots.items spot))
bits_read design count layout belows offsets tables few spot cell of at all read from bits same e f g h =
    let lt : spot < length layout.spots.items = slice_get_within layout.spots.items spot of.spot of.is_spot in
    let inside : spot < length layout.bases.items = omega (arith, lt, tables.is_layout.len) in
    let p : at ≡ of.spot = e ∙ get_or_from_slice_get layout.spots.items spot of.spot at of.is_spot in
    let is : slice_get all at.cell ≡ Some cell = subst₂ (λ (s : Spot) (cs : List HCell). slice_get cs s.cell ≡ Some cell) (sym p) (sym same) of.is_cell in
    let q : read ≡ cell = f ∙ get_or_from_slice_get all at.cell cell read is in
    let w : port_bits read ≡ sum_by (λ (port : HPort). width_of port.range) (ports_at design.cells layout.spots.items spot) = ap port_bits q ∙ ap (sum_by (λ (port : HPort). width_of port.range)) (sym (ports_read design.cells layout.spots.items spot cell of)) in
    let fits = ports_fit design count layout belows offsets tables spot cell of in
    let small : port_bits read ≤ 18446744073709551615 = omega (arith, w, fits, tables.is_layout.few, few) in (
      g ∙ (get_or_default_zero layout.bases.items spot from inside ∙ sym (get_or_default_zero layout.bases.items spot layout.count inside)),
      h ∙ (min-eq_right small ∙ w),
    )
