-- The first port bits of a cell that are connected.
use Rattle.std.proofs.Common.{◌≡◌, ℕ, ◌+◌, ◌<◌, ◌≤◌, inl, inr, List, [], ◌∷◌, Option, None, Some, length, slice_get, get_or, refl, sym, ◌∙◌, ap, subst, arith, Contains}
use Rattle.std.specs.Option.{option_and_then, option_map_or}
use Rattle.std.specs.List.Sorted.{IsStrictlySortedBy}
use Rattle.std.specs.declared.cmp.Ordering.{Ordering}
use Rattle.std.specs.declared.cmp.Ordering.TheVariants.{Less, Equal, Greater}
use Rattle.std.proofs.lemmas.Bool.{cases_lt}
use Rattle.std.proofs.lemmas.List.Kept.{IsStrictlySortedBy-filter}
use Rattle.std.proofs.lemmas.Option.{slice_get-get_or, slice_get_within}
use Rattle.net_bits.specs.Classes.{AreClasses, ClassTable, class_of, is_number, members_of}
use Rattle.net_bits.specs.Neighbours.{IsJoined}
use Rattle.net_bits.proofs.CallerLaws.{connected_classes, member_of_class}
use Rattle.net_hier.specs.Cells.{IsPortBit, width_of}
use Rattle.net_hier.specs.Nodes.{node_cmp}
use Rattle.net_hier.specs.declared.cells.HCell.{HCell}
use Rattle.net_hier.specs.declared.cells.HPort.{HPort}
use Rattle.net_hier.specs.declared.nodes.Node.{Node}
use Rattle.net_hier.specs.declared.nodes.Node.TheVariants.{Port, Pin, Net, Zero, One}
use Rattle.to_spice_rules.specs.Connections.{AreFirstJoined, AreJoined, HasPortsApart}
use Rattle.to_spice_rules.specs.Found.{HasOwnPorts, NoneBefore, end_of_port, first_before, first_if_before, if_less}
use Rattle.to_spice_rules.specs.PortWords.{IsOwnBit}
use Rattle.to_spice_rules.proofs.PortOrder.{before_back, before_itself, earlier_bit, earlier_port, head_least, only_ports_before, port_before}

-- what is found before a port bit: the first one that is connected to it, or none is
abbrev FoundFor : HCell → Node → Option Node → Type 0
FoundFor cell later None = (x : Node) → ¬ AreJoined cell x later
FoundFor cell later (Some first) = AreJoined cell first later × ((x : Node) → AreJoined cell x later → ¬ (node_cmp x first ≡ Less))

own_bit : (cell : HCell) → HasOwnPorts cell → (x : Node) (q c : ℕ) → IsJoined cell x → node_cmp x (Port q c) ≡ Less → IsOwnBit cell x
own_bit cell own x q c joined less =
    let p = only_ports_before x q c less in
    subst (IsOwnBit cell) (sym p.2) (own p.0 p.1 (subst (IsJoined cell) p.2 joined))

module _ (cell : HCell) (classes : ClassTable) (are : AreClasses cell classes) (own : HasOwnPorts cell) (q c : ℕ) (bit : IsPortBit cell q c) where
  -- a port bit that is joined with an earlier one has a class, and the earlier one has the same
  shared : (x : Node) → AreJoined cell x (Port q c) → (class : ℕ) × (class_of classes x ≡ Some class) × (class_of classes (Port q c) ≡ Some class)
  shared x j = elim ((connected_classes cell classes are x (Port q c)).0 j.connected) as (λ _. (class : ℕ) × (class_of classes x ≡ Some class) × (class_of classes (Port q c) ≡ Some class)) [
    | inl same ↦ absurd (before_itself x (subst (λ z. node_cmp x z ≡ Less) (sym same) j.in_order))
    | inr k ↦ k
  ]

  module _ (class : ℕ) (in_class : class_of classes (Port q c) ≡ Some class) where
    member : (x : Node) → AreJoined cell x (Port q c) → Contains (members_of classes class) x
    member x j =
        let k = shared x j in
        let e : k.0 ≡ class = cc in
        (member_of_class cell classes are x class).0 (k.1 ∙ ap Some e)

    sorted : IsStrictlySortedBy node_cmp (members_of classes class)
    sorted = IsStrictlySortedBy-filter node_cmp (λ node. is_number class (class_of classes node)) classes.nodes are.nodes.in_order

    head_joined : (m : Node) → Contains (members_of classes class) m → node_cmp m (Port q c) ≡ Less → AreJoined cell m (Port q c)
    head_joined m has less =
        let k : class_of classes m ≡ Some class = (member_of_class cell classes are m class).1 has in
        record {
          is_first = own_bit cell own m q c ((are.joined m).1 (class, k)) less;
          is_later = bit;
          in_order = less;
          connected = (connected_classes cell classes are m (Port q c)).1 (inr (class, k, in_class));
        }

    none_before : (m : Node) (ms : List Node) → members_of classes class ≡ m ∷ ms → ¬ (node_cmp m (Port q c) ≡ Less) → (x : Node) → ¬ AreJoined cell x (Port q c)
    none_before m ms is not_less x j =
        let own_place : Contains (m ∷ ms) (Port q c) = subst (λ l. Contains l (Port q c)) is ((member_of_class cell classes are (Port q c) class).0 in_class) in
        let order : IsStrictlySortedBy node_cmp (m ∷ ms) = subst (IsStrictlySortedBy node_cmp) is sorted in
        elim (head_least m ms order (Port q c) own_place) as (λ _. ⊥) [
          | inr less ↦ not_less less
          | inl e ↦ elim (head_least m ms order x (subst (λ l. Contains l x) is (member x j))) as (λ _. ⊥) [
            | inl f ↦ before_itself x (subst (λ z. node_cmp x z ≡ Less) (sym e ∙ f) j.in_order)
            | inr less ↦ before_back x m (subst (λ z. node_cmp x z ≡ Less) (sym e) j.in_order) less
          ]
        ]

    by_order : (m : Node) (ms : List Node) → members_of classes class ≡ m ∷ ms → (o : Ordering) → node_cmp m (Port q c) ≡ o → FoundFor cell (Port q c) (if_less o m)
    by_order m ms is Less less =
        let here : Contains (members_of classes class) m = subst (λ l. Contains l m) (sym is) (0, omega arith, refl) in (
          head_joined m here less,
          λ x j g. elim (head_least m ms (subst (IsStrictlySortedBy node_cmp) is sorted) x (subst (λ l. Contains l x) is (member x j))) as (λ _. ⊥) [
            | inl e ↦ before_itself x (subst (λ z. node_cmp x z ≡ Less) e g)
            | inr l ↦ before_back m x l g
          ],
        )
    by_order m ms is Equal e = none_before m ms is (λ less. let f : Equal ≡ Less = sym e ∙ less in cc)
    by_order m ms is Greater e = none_before m ms is (λ less. let f : Greater ≡ Less = sym e ∙ less in cc)

    by_members : (ms : List Node) → members_of classes class ≡ ms → FoundFor cell (Port q c) (first_if_before (Port q c) ms)
    by_members [] is = λ x j. let h : Contains [] x = subst (λ l. Contains l x) is (member x j) in let l = h.1 in omega (arith, l)
    by_members (m ∷ ms) is = by_order m ms is (node_cmp m (Port q c)) refl

  by_class : (o : Option ℕ) → class_of classes (Port q c) ≡ o → FoundFor cell (Port q c) (option_and_then (λ class. first_if_before (Port q c) (members_of classes class)) o)
  by_class None e = λ x j. let k = shared x j in let f : None ≡ Some k.0 = sym e ∙ k.2 in cc
  by_class (Some class) e = by_members class e (members_of classes class) refl

  found_before : FoundFor cell (Port q c) (first_before classes (Port q c))
  found_before = by_class (class_of classes (Port q c)) refl

  pub found_none : first_before classes (Port q c) ≡ None → (x : Node) → ¬ AreJoined cell x (Port q c)
  found_none e = subst (FoundFor cell (Port q c)) e found_before

  -- where no port bit before is joined with an earlier one, this one and what is found are the first
  pub found_first : (first : Node) → first_before classes (Port q c) ≡ Some first → NoneBefore cell (Port q c) → AreFirstJoined cell first (Port q c)
  found_first first e none =
      let f : FoundFor cell (Port q c) (Some first) = subst (FoundFor cell (Port q c)) e found_before in
      record { joined = f.0; no_earlier = none; no_other = f.1 }

-- ---- the turns of the loops
-- no bit before the next one
pub next_bit : (cell : HCell) (q c : ℕ) → NoneBefore cell (Port q c) → ((x : Node) → ¬ AreJoined cell x (Port q c)) → NoneBefore cell (Port q (c + 1))
next_bit cell q c none here first (Port p b) j less = elim (port_before p b q (c + 1) less) as (λ _. ⊥) [
  | inl l ↦ none first (Port p b) j (earlier_port p b q c l)
  | inr r ↦ elim (cases_lt b c) as (λ _. ⊥) [
    | inl l ↦ none first (Port p b) j (earlier_bit p b q c r.0 l)
    | inr ge ↦
        let e : b ≡ c = let l = r.1 in omega (arith, l, ge) in
        let pq : p ≡ q = r.0 in
        let same : Port p b ≡ Port q c = λ i. Port (pq i) (e i) in
        here first (subst (AreJoined cell first) same j)
  ]
]
next_bit cell q c none here first (Pin i p b) j less = j.is_later
next_bit cell q c none here first (Net n) j less = j.is_later
next_bit cell q c none here first Zero j less = j.is_later
next_bit cell q c none here first One j less = j.is_later

-- no bit before those of the next port
pub next_port : (cell : HCell) (q : ℕ) → NoneBefore cell (Port q (end_of_port cell q)) → NoneBefore cell (Port (q + 1) 0)
next_port cell q none first (Port p b) j less = elim (port_before p b (q + 1) 0 less) as (λ _. ⊥) [
  | inr r ↦ let l = r.1 in omega (arith, l)
  | inl l ↦ elim (cases_lt p q) as (λ _. ⊥) [
    | inl lt ↦ none first (Port p b) j (earlier_port p b q (end_of_port cell q) lt)
    | inr ge ↦
        let e : p ≡ q = omega (arith, l, ge) in
        let is : IsPortBit cell p b = j.is_later in
        let end : end_of_port cell q ≡ width_of is.the_port.range = ap (λ o. option_map_or (λ (port : HPort). width_of port.range) o 0) (ap (slice_get cell.ports) (sym e) ∙ is.is_there) in
        none first (Port p b) j (earlier_bit p b q (end_of_port cell q) e (subst (λ n. b < n) (sym end) is.within))
  ]
]
next_port cell q none first (Pin i p b) j less = j.is_later
next_port cell q none first (Net n) j less = j.is_later
next_port cell q none first Zero j less = j.is_later
next_port cell q none first One j less = j.is_later

-- nothing is before the first port
pub first_port : (cell : HCell) → NoneBefore cell (Port 0 0)
first_port cell first (Port p b) j less = elim (port_before p b 0 0 less) as (λ _. ⊥) [
  | inl l ↦ omega (arith, l)
  | inr r ↦ let l = r.1 in omega (arith, l)
]
first_port cell first (Pin i p b) j less = j.is_later
first_port cell first (Net n) j less = j.is_later
first_port cell first Zero j less = j.is_later
first_port cell first One j less = j.is_later

-- behind the last port there is nothing more
pub last_port : (cell : HCell) (q : ℕ) → length cell.ports ≤ q → NoneBefore cell (Port q 0) → HasPortsApart cell
last_port cell q le none first (Port p b) j =
    let is : IsPortBit cell p b = j.is_later in
    let lt = slice_get_within cell.ports p is.the_port is.is_there in
    none first (Port p b) j (earlier_port p b q 0 (omega (arith, lt, le)))
last_port cell q le none first (Pin i p b) j = j.is_later
last_port cell q le none first (Net n) j = j.is_later
last_port cell q le none first Zero j = j.is_later
last_port cell q le none first One j = j.is_later

-- ---- the port of a number
module _ (cell : HCell) (q : ℕ) (ports : List HPort) (port : HPort) (width : ℕ) (lt : q < length cell.ports) (are : ports ≡ cell.ports) (is : get_or ports q port ≡ port) (wide : width ≡ width_of port.range) where
  port_is : slice_get cell.ports q ≡ Some port
  port_is = slice_get-get_or cell.ports q port lt ∙ ap Some (ap (λ l. get_or l q port) (sym are) ∙ is)

  end_is : end_of_port cell q ≡ width
  end_is = ap (λ o. option_map_or (λ (p : HPort). width_of p.range) o 0) port_is ∙ sym wide

  pub bit_is : (c : ℕ) → c < width → IsPortBit cell q c
  bit_is c less = record { the_port = port; is_there = port_is; within = subst (λ n. c < n) wide less }

-- the bit of the turn
pub own_bit_of : (cell : HCell) (q c : ℕ) (port : HPort) (width : ℕ) {ports : List HPort} → q < length cell.ports → ports ≡ cell.ports → port ≡ get_or ports q port → width ≡ width_of port.range → c < width → IsPortBit cell q c
own_bit_of cell q c port width {ports = ports} lt are is wide less = bit_is cell q ports port width lt are (sym is) wide c less

-- all bits of the port were passed
pub port_done : (cell : HCell) (q c : ℕ) (port : HPort) (width : ℕ) {ports : List HPort} → q < length cell.ports → ports ≡ cell.ports → port ≡ get_or ports q port → width ≡ width_of port.range → width ≤ c → NoneBefore cell (Port q c) → NoneBefore cell (Port q (end_of_port cell q))
port_done cell q c port width {ports = ports} lt are is wide le none first (Port p b) j less = elim (port_before p b q (end_of_port cell q) less) as (λ _. ⊥) [
  | inl l ↦ none first (Port p b) j (earlier_port p b q c l)
  | inr r ↦
      let end = end_is cell q ports port width lt are (sym is) wide in
      let l = r.1 in
      none first (Port p b) j (earlier_bit p b q c r.0 (omega (arith, l, end, le)))
]
port_done cell q c port width lt are is wide le none first (Pin i p b) j less = j.is_later
port_done cell q c port width lt are is wide le none first (Net n) j less = j.is_later
port_done cell q c port width lt are is wide le none first Zero j less = j.is_later
port_done cell q c port width lt are is wide le none first One j less = j.is_later
