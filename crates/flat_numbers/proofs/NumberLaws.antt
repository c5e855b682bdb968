-- two flat nodes are connected exactly where their numbers are
use Rattle.std.proofs.Common.{◌≡◌, ◌≢◌, ℕ, ◌+◌, ◌<◌, ◌≤◌, ◌⊎◌, ◌↔◌, inl, inr, List, [], ◌∷◌, refl, sym, ◌∙◌, ap, subst, subst₂, slice_get, Some, arith, Bool, true, false}
use Rattle.flat_numbers.specs.declared.joins.NumberJoin.{NumberJoin}
use Rattle.net_hier.specs.Constants.{ConstantNames}
use Rattle.net_hier.specs.Cells.{HasLocalStep, IsConstantInstance, IsLocallyConnected, IsPinBit, constant_node, width_of}
use Rattle.net_hier.specs.Design.{Design, IsCell}
use Rattle.net_hier.specs.Flat.{FlatNode, Constant, At, FlatLink, by_join, by_pin, by_constant, FlatStep, IsConnected, taken_at}
use Rattle.net_hier.specs.Paths.{Path, CellAt}
use Rattle.net_hier.specs.Valid.{IsGoodCell, IsNode, IsValid}
use Rattle.std.specs.Prelude.{Contains}
use Rattle.net_graph.proofs.OrderLaws.{contained}
use Rattle.net_graph.specs.Walks.{IsLinked, Leads}
use Rattle.net_hier.specs.declared.cells.HCell.{HCell}
use Rattle.net_hier.specs.declared.nodes.Join.{Join}
use Rattle.net_hier.specs.declared.nodes.Node.{Node}
use Rattle.net_hier.specs.declared.nodes.Node.TheVariants.{Port, Pin, Net, Zero, One}
use Rattle.net_hier.proofs.Near.{connected_at, connected_back, taken_injective}
use Rattle.net_hier.proofs.Partners.{valid_has_paths}
use Rattle.net_hier.proofs.PathLaws.{cell_there, one_cell, same_element}
use Rattle.net_graph.proofs.WalkLaws.{linked_along, linked_back, linked_by, linked_itself}
use Rattle.flat_numbers.specs.Linked.{HasJoin}
use Rattle.flat_numbers.specs.Numbers.{AreBases, AreFlatJoins, AreLinks, CellOf, FlatJoin, HasLink, IsBelow, IsNumber, IsPlace, NodeNumber, of_zero, of_one, of_own, of_pin, port_place, net_place, by_link, by_constant as by_cell, constant_number}
use Rattle.flat_numbers.specs.Spots.{IsSpotBelow, IsSpotOf}
use Rattle.flat_numbers.specs.declared.spots.Spot.{Spot}
use Rattle.flat_numbers.proofs.PathSpots.{cell_of_spot, next_spot, one_path, one_spot, spot_has_path, spot_leads, spot_of_cell}
use Rattle.flat_numbers.proofs.Places.{number_least, number_once, one_place, place_once, place_within}
use Rattle.flat_numbers.proofs.SpotLaws.{SpotFacts, spot_of}

-- what each step keeps holds at the end
leads_keep : {A : Type 0} (Step : A → A → Type 0) (P : A → Type 0) → ((x y : A) → Step x y → P x → P y) → (x : A) (places : List A) (y : A) → Leads Step x places y → P x → P y
leads_keep Step P keeps x [] y lead p = subst P lead p
leads_keep Step P keeps x (next ∷ rest) y lead p = leads_keep Step P keeps next rest y lead.1 (keeps x next lead.0 p)

pub linked_keeps : {A : Type 0} (Step : A → A → Type 0) (P : A → Type 0) → ((x y : A) → Step x y → P x → P y) → (x y : A) → IsLinked Step x y → P x → P y
linked_keeps Step P keeps x y link p = leads_keep Step P keeps x link.places y link.lead p

taken_zero : (p q : Path) (y : Node) → taken_at p Zero ≡ taken_at q y → y ≡ Zero
taken_zero p q Zero e = refl
taken_zero p q One e = absurd (cc)
taken_zero p q (Port a b) e = absurd (cc)
taken_zero p q (Pin i a b) e = absurd (cc)
taken_zero p q (Net n) e = absurd (cc)

taken_one : (p q : Path) (y : Node) → taken_at p One ≡ taken_at q y → y ≡ One
taken_one p q One e = refl
taken_one p q Zero e = absurd (cc)
taken_one p q (Port a b) e = absurd (cc)
taken_one p q (Pin i a b) e = absurd (cc)
taken_one p q (Net n) e = absurd (cc)

-- where two nodes are taken alike, they are one constant, or one node at one path
taken_alike : (p q : Path) (x y : Node) → taken_at p x ≡ taken_at q y → ((q ≡ p) × (y ≡ x)) ⊎ (((x ≡ Zero) × (y ≡ Zero)) ⊎ ((x ≡ One) × (y ≡ One)))
taken_alike p q (Port a b) y e = inl (taken_injective q p y (Port a b) e)
taken_alike p q (Pin i a b) y e = inl (taken_injective q p y (Pin i a b) e)
taken_alike p q (Net n) y e = inl (taken_injective q p y (Net n) e)
taken_alike p q Zero y e = inr (inl (refl, taken_zero p q y e))
taken_alike p q One y e = inr (inr (refl, taken_one p q y e))

same_constant : (v w : Bool) → constant_number v ≡ constant_number w → v ≡ w
same_constant false false e = refl
same_constant true true e = refl
same_constant false true e = absurd (omega (arith, e))
same_constant true false e = absurd (omega (arith, e))

pub constant_small : (v : Bool) → constant_number v < 2
constant_small false = omega arith
constant_small true = omega arith

pub bit_no_constant : (cell : HCell) (v : Bool) (node : Node) (a : ℕ) → IsPlace cell node a → node ≢ constant_node v
bit_no_constant cell false node a (port_place is) e = cc
bit_no_constant cell true node a (port_place is) e = cc
bit_no_constant cell false node a (net_place lt) e = cc
bit_no_constant cell true node a (net_place lt) e = cc

pub bit_no_pin : (cell : HCell) (instance port bit : ℕ) (node : Node) (a : ℕ) → IsPlace cell node a → node ≢ Pin instance port bit
bit_no_pin cell instance port bit node a (port_place is) e = cc
bit_no_pin cell instance port bit node a (net_place lt) e = cc

-- the nodes of a join are the cell's
pub joined_nodes : (cells : List HCell) (cell : HCell) → IsGoodCell cells cell → (join : Join) → Contains cell.joins join → IsNode cells cell join.a × IsNode cells cell join.b
joined_nodes cells cell good join c = let s = contained cell.joins join c in good.joins_in_range s.place join s.is_there

-- an instance of a constant cell has the pin
pub constant_pin : (names : ConstantNames) (cells : List HCell) (cell : HCell) (value : Bool) (instance : ℕ) → IsConstantInstance names cells cell value instance → IsPinBit cells cell instance 0 0
constant_pin names cells cell value instance c = record {
  the_instance = c.the_instance;
  is_there = c.is_there;
  below = c.below;
  is_below = c.is_below;
  is_bit = record {
    the_port = c.is_constant.port;
    is_there = subst (λ ps. slice_get ps 0 ≡ Some c.is_constant.port) (sym c.is_constant.only_port) refl;
    within = subst (λ r. 0 < width_of r) (sym c.is_constant.is_scalar) (omega arith);
  };
}

module _ (names : ConstantNames) (design : Design) (valid : IsValid design) (spots : List Spot) (facts : SpotFacts design.cells design.top spots) (base : ℕ → ℕ) (count : ℕ) (bases : AreBases design.cells spots base count) where
  abbrev pub Number : ℕ → HCell → Node → ℕ → Type 0
  Number = NodeNumber design.cells spots base

  abbrev pub Is : FlatNode → ℕ → Type 0
  Is = IsNumber design.cells spots base

  abbrev pub Connected : FlatNode → FlatNode → Type 0
  Connected = IsConnected names design

  pub known : (number : ℕ) (spot : Spot) → slice_get spots number ≡ Some spot → (cell : HCell) × IsCell design.cells spot.cell cell
  known number spot is =
      let (path, at) = spot_has_path design valid spots facts number spot is in
      let (other, is_other, leads) = spot_leads design valid spots facts path number at in
      let (cell, is_cell) = cell_there design (valid_has_paths design valid) path other.cell leads in
      let same : other ≡ spot = same_element spots number other spot is_other is in
      (cell, subst (λ (s : Spot). IsCell design.cells s.cell cell) same is_cell)

  one_below : (number instance a b : ℕ) → IsBelow spots number instance a → IsBelow spots number instance b → a ≡ b
  one_below number instance a b ha hb = facts.once a b ha.spot hb.spot ha.no_top hb.no_top ha.is_spot hb.is_spot (ha.of_parent ∙ sym hb.of_parent) (ha.of_instance ∙ sym hb.of_instance)

  same_pin_cell : (cell : HCell) (instance port bit oport obit : ℕ) (a : IsPinBit design.cells cell instance port bit) (b : IsPinBit design.cells cell instance oport obit) → a.below ≡ b.below
  same_pin_cell cell instance port bit oport obit a b =
      let e : a.the_instance ≡ b.the_instance = same_element cell.instances instance a.the_instance b.the_instance a.is_there b.is_there in
      same_element design.cells b.the_instance.cell a.below b.below (subst (λ i. IsCell design.cells i.cell a.below) e a.is_below) b.is_below

  -- a node has one number
  node_one : (number : ℕ) (cell : HCell) (x : Node) (u v : ℕ) → Number number cell x u → Number number cell x v → u ≡ v
  node_one number cell x u v of_zero of_zero = refl
  node_one number cell x u v of_one of_one = refl
  node_one number cell x u v (of_own {place = a} p) (of_own {place = b} q) = ap (λ w. base number + w) (one_place cell x a b p q)
  node_one number cell x u v (of_pin {instance = i} {port = port} {bit = bit} {inner = a} {place = m} pin below p) (of_pin {inner = b} {place = n} pin' below' q) =
      let e : a ≡ b = one_below number i a b below below' in
      let c : pin.below ≡ pin'.below = same_pin_cell cell i port bit port bit pin pin' in
      let f : m ≡ n = one_place pin'.below (Port port bit) m n (subst (λ w. IsPlace w (Port port bit) m) c p) q in
      let g : base a ≡ base b = ap base e in
      omega (arith, f, g)
  node_one number cell x u v of_zero (of_own {node = node} {place = a} p) = absurd (bit_no_constant cell false node a p refl)
  node_one number cell x u v of_one (of_own {node = node} {place = a} p) = absurd (bit_no_constant cell true node a p refl)
  node_one number cell x u v (of_own {node = node} {place = a} p) of_zero = absurd (bit_no_constant cell false node a p refl)
  node_one number cell x u v (of_own {node = node} {place = a} p) of_one = absurd (bit_no_constant cell true node a p refl)
  node_one number cell x u v (of_own {node = node} {place = a} p) (of_pin {instance = i} {port = port} {bit = bit} pin below q) = absurd (bit_no_pin cell i port bit node a p refl)
  node_one number cell x u v (of_pin {instance = i} {port = port} {bit = bit} pin below q) (of_own {node = node} {place = a} p) = absurd (bit_no_pin cell i port bit node a p refl)

  -- the spot of a pin's cell
  pub record PinSpot (path : Path) (number : ℕ) (cell : HCell) (instance port bit inner : ℕ) (pin : IsPinBit design.cells cell instance port bit) : Type 0 where
    pub at : IsSpotOf design.cells spots (pin.the_instance.name ∷ path) inner
    pub of_cell : CellOf design.cells spots inner pin.below

  pin_spot : (path : Path) (number : ℕ) (cell : HCell) (instance port bit inner : ℕ) → IsSpotOf design.cells spots path number → CellOf design.cells spots number cell →
      (pin : IsPinBit design.cells cell instance port bit) → IsBelow spots number instance inner → PinSpot path number cell instance port bit inner pin
  pin_spot path number cell instance port bit inner at of pin below =
      let (found, is, spot_below) = next_spot design valid spots facts number cell instance pin.the_instance of pin.is_there in
      let e : found ≡ inner = one_below number instance found inner (record { spot = spot_of number instance pin.the_instance; is_spot = is; no_top = spot_below.no_top; of_parent = refl; of_instance = refl }) below in
      record {
        at = (number, at, subst (IsSpotBelow design.cells spots number pin.the_instance.name) e spot_below);
        of_cell = record { spot = spot_of number instance pin.the_instance; is_spot = subst (λ n. slice_get spots n ≡ Some (spot_of number instance pin.the_instance)) e is; is_cell = pin.is_below };
      }

  -- the node of the cell at a spot whose number this is
  pub record HasOwner (x : FlatNode) (u : ℕ) : Type 0 where
    pub path : Path
    pub number : ℕ
    pub at : IsSpotOf design.cells spots path number
    pub cell : HCell
    pub of_cell : CellOf design.cells spots number cell
    pub node : Node
    pub place : ℕ
    pub is_place : IsPlace cell node place
    pub u_is : u ≡ base number + place
    pub linked : Connected x (taken_at path node)

  pub record IsConstantNumber (x : FlatNode) (u : ℕ) : Type 0 where
    pub value : Bool
    pub x_is : x ≡ Constant value
    pub u_is : u ≡ constant_number value

  owner_of : (path : Path) (number : ℕ) (cell : HCell) → IsSpotOf design.cells spots path number → CellOf design.cells spots number cell → (node : Node) (u : ℕ) → Number number cell node u →
      IsConstantNumber (taken_at path node) u ⊎ HasOwner (taken_at path node) u
  owner_of path number cell at of node u of_zero = inl (record { value = false; x_is = refl; u_is = refl })
  owner_of path number cell at of node u of_one = inl (record { value = true; x_is = refl; u_is = refl })
  owner_of path number cell at of node u (of_own {node = own} {place = place} p) = inr (record {
    path = path;
    number = number;
    at = at;
    cell = cell;
    of_cell = of;
    node = own;
    place = place;
    is_place = p;
    u_is = refl;
    linked = linked_itself (FlatStep names design) (taken_at path own);
  })
  owner_of path number cell at of node u (of_pin {instance = i} {port = port} {bit = bit} {inner = inner} {place = place} pin below p) =
      let s : PinSpot path number cell i port bit inner pin = pin_spot path number cell i port bit inner at of pin below in
      inr (record {
        path = pin.the_instance.name ∷ path;
        number = inner;
        at = s.at;
        cell = pin.below;
        of_cell = s.of_cell;
        node = Port port bit;
        place = place;
        is_place = p;
        u_is = refl;
        linked = linked_by (inl (by_pin (cell_of_spot design valid spots facts path number cell at of) pin));
      })

  pub owner : (x : FlatNode) (u : ℕ) → Is x u → IsConstantNumber x u ⊎ HasOwner x u
  owner x u is = subst (λ y. IsConstantNumber y u ⊎ HasOwner y u) (sym is.x_is) (owner_of is.path is.number is.cell is.at is.of_cell is.node u is.node_number)

  owned_more : (x : FlatNode) (u : ℕ) → HasOwner x u → 2 ≤ u
  owned_more x u o = omega (arith, o.u_is, number_least design.cells spots base count bases known o.number o.cell o.of_cell)

  same_owner : (x y : FlatNode) (u : ℕ) → HasOwner x u → HasOwner y u → Connected x y
  same_owner x y u a b =
      let (n, p) = number_once design.cells spots base count bases known a.number b.number a.cell b.cell a.place b.place a.of_cell b.of_cell (place_within a.cell a.node a.place a.is_place) (place_within b.cell b.node b.place b.is_place) (sym a.u_is ∙ b.u_is) in
      let path : a.path ≡ b.path = one_path design valid spots facts a.path b.path b.number (subst (IsSpotOf design.cells spots a.path) n a.at) b.at in
      let ca : CellAt design b.path a.cell = subst (λ q. CellAt design q a.cell) path (cell_of_spot design valid spots facts a.path a.number a.cell a.at a.of_cell) in
      let cell : a.cell ≡ b.cell = one_cell design (valid_has_paths design valid) b.path a.cell b.cell ca (cell_of_spot design valid spots facts b.path b.number b.cell b.at b.of_cell) in
      let node : a.node ≡ b.node = place_once b.cell a.node b.node a.place b.place (subst (λ c. IsPlace c a.node a.place) cell a.is_place) b.is_place p in
      let same : taken_at a.path a.node ≡ taken_at b.path b.node = ap (λ q. taken_at q a.node) path ∙ ap (taken_at b.path) node in
      linked_along (subst (Connected x) same a.linked) (connected_back names design b.linked)

  -- flat nodes of one number are connected
  pub same_number : (x y : FlatNode) (u : ℕ) → Is x u → Is y u → Connected x y
  same_number x y u hx hy = elim (owner x u hx) [
    | inl a ↦ elim (owner y u hy) [
      | inl b ↦ let e : a.value ≡ b.value = same_constant a.value b.value (sym a.u_is ∙ b.u_is) in
          subst (Connected x) (a.x_is ∙ (ap Constant e ∙ sym b.x_is)) (linked_itself (FlatStep names design) x)
      | inr b ↦ absurd (omega (arith, a.u_is, constant_small a.value, owned_more y u b))
    ]
    | inr a ↦ elim (owner y u hy) [
      | inl b ↦ absurd (omega (arith, b.u_is, constant_small b.value, owned_more x u a))
      | inr b ↦ same_owner x y u a b
    ]
  ]

  zero_number : (number : ℕ) (cell : HCell) (u : ℕ) → Number number cell Zero u → u ≡ 0
  zero_number number cell u n = node_one number cell Zero u 0 n of_zero

  one_one : (number : ℕ) (cell : HCell) (u : ℕ) → Number number cell One u → u ≡ 1
  one_one number cell u n = node_one number cell One u 1 n of_one

  -- a flat node has one number
  pub one_number : (x : FlatNode) (u v : ℕ) → Is x u → Is x v → u ≡ v
  one_number x u v a b = elim (taken_alike a.path b.path a.node b.node (sym a.x_is ∙ b.x_is)) [
    | inl (p, n) ↦
        let number : b.number ≡ a.number = one_spot design valid spots facts a.path b.number a.number (subst (λ q. IsSpotOf design.cells spots q b.number) p b.at) a.at in
        let cb : CellAt design a.path b.cell = subst (λ q. CellAt design q b.cell) p (cell_of_spot design valid spots facts b.path b.number b.cell b.at b.of_cell) in
        let cell : b.cell ≡ a.cell = one_cell design (valid_has_paths design valid) a.path b.cell a.cell cb (cell_of_spot design valid spots facts a.path a.number a.cell a.at a.of_cell) in
        let moved : Number a.number b.cell b.node v = subst (λ m. Number m b.cell b.node v) number b.node_number in
        let there : Number a.number a.cell a.node v = subst₂ (λ (c : HCell) (m : Node). Number a.number c m v) cell n moved in
        node_one a.number a.cell a.node u v a.node_number there
    | inr (inl (e, f)) ↦ zero_number a.number a.cell u (subst (λ m. Number a.number a.cell m u) e a.node_number) ∙ sym (zero_number b.number b.cell v (subst (λ m. Number b.number b.cell m v) f b.node_number))
    | inr (inr (e, f)) ↦ one_one a.number a.cell u (subst (λ m. Number a.number a.cell m u) e a.node_number) ∙ sym (one_one b.number b.cell v (subst (λ m. Number b.number b.cell m v) f b.node_number))
  ]

  constant_is : (path : Path) (number : ℕ) (cell : HCell) → IsSpotOf design.cells spots path number → CellOf design.cells spots number cell → (value : Bool) → Is (Constant value) (constant_number value)
  constant_is path number cell at of false = record { path = path; number = number; at = at; cell = cell; of_cell = of; node = Zero; x_is = refl; node_number = of_zero }
  constant_is path number cell at of true = record { path = path; number = number; at = at; cell = cell; of_cell = of; node = One; x_is = refl; node_number = of_one }

  -- each node of the cell at a spot has a number
  pub node_number : (number : ℕ) (cell : HCell) (node : Node) → CellOf design.cells spots number cell → IsNode design.cells cell node → (u : ℕ) × Number number cell node u
  node_number number cell Zero of is = (0, of_zero)
  node_number number cell One of is = (1, of_one)
  node_number number cell (Port port bit) of is = (_, of_own (port_place is))
  node_number number cell (Net net) of is = (_, of_own (net_place is))
  node_number number cell (Pin instance port bit) of pin =
      let (inner, is, below) = next_spot design valid spots facts number cell instance pin.the_instance of pin.is_there in
      (_, of_pin pin (record { spot = spot_of number instance pin.the_instance; is_spot = is; no_top = below.no_top; of_parent = refl; of_instance = refl }) (port_place pin.is_bit))

  module _ (links : ℕ → List Join) (are : (number : ℕ) (cell : HCell) → IsCell design.cells number cell → AreLinks design.cells cell (links number))
      (joins : List NumberJoin) (flat : AreFlatJoins names design.cells spots base links joins) where
    abbrev pub Joined : ℕ → ℕ → Type 0
    Joined = IsLinked (HasJoin joins)

    joined_back : (u v : ℕ) → Joined u v → Joined v u
    joined_back u v h = linked_back (HasJoin joins) (λ a b s. elim s as (λ _. HasJoin joins b a) [ inl m ↦ inr m | inr m ↦ inl m ]) h

    joined_along : (u v w : ℕ) → Joined u v → Joined v w → Joined u w
    joined_along u v w h k = linked_along h k

    by_flat_join : (u v : ℕ) → FlatJoin names design.cells spots base links u v → Joined u v
    by_flat_join u v f = linked_by (inl ((flat u v).1 f))

    -- the links of a spot's cell join the numbers of its nodes
    by_local : (number : ℕ) (cell : HCell) (of : CellOf design.cells spots number cell) (x y : Node) (u : ℕ) → IsLinked (HasLink (links of.spot.cell)) x y → Number number cell x u → (v : ℕ) × Number number cell y v × Joined u v
    by_local number cell of x y u link n =
        let a : AreLinks design.cells cell (links of.spot.cell) = are of.spot.cell cell of.is_cell in
        linked_keeps (HasLink (links of.spot.cell)) (λ z. (v : ℕ) × Number number cell z v × Joined u v)
        (λ z w s k.
        let (v, m) = node_number number cell w of (a.in_range z w s).1 in
        let j : Joined k.0 v = elim s as (λ _. Joined k.0 v) [
          | inl c ↦ by_flat_join k.0 v (by_link of.is_spot of.is_cell c k.1 m)
          | inr c ↦ joined_back v k.0 (by_flat_join v k.0 (by_link of.is_spot of.is_cell c m k.1))
        ] in
        (v, m, joined_along u k.0 v k.2 j))
        x y link (u, n, linked_itself (HasJoin joins) u)

    local_of : {cell : HCell} {x y : Node} → HasLocalStep cell x y → IsLocallyConnected cell x y
    local_of step = linked_by step

    -- a flat step from a node with a number leads to one with a number that is joined to it
    link_number : (x y : FlatNode) (u : ℕ) → FlatLink names design x y → Is x u → (v : ℕ) × Is y v × Joined u v
    link_number x y u (by_join {path = path} {cell = cell} {x = a} {y = b} at step) is =
        let (number, spot_at, of) = spot_of_cell design valid spots facts path cell at in
        let good = valid.good_cells of.spot.cell cell of.is_cell in
        let nodes : IsNode design.cells cell a × IsNode design.cells cell b = elim step.has_both as (λ _. IsNode design.cells cell a × IsNode design.cells cell b) [
          | inl e ↦ let r = joined_nodes design.cells cell good step.join step.is_join in (subst (IsNode design.cells cell) e.0 r.0, subst (IsNode design.cells cell) e.1 r.1)
          | inr e ↦ let r = joined_nodes design.cells cell good step.join step.is_join in (subst (IsNode design.cells cell) e.1 r.1, subst (IsNode design.cells cell) e.0 r.0)
        ] in
        let (w, n) = node_number number cell a of nodes.0 in
        let is_w : Is (taken_at path a) w = record { path = path; number = number; at = spot_at; cell = cell; of_cell = of; node = a; x_is = refl; node_number = n } in
        let e : w ≡ u = one_number (taken_at path a) w u is_w is in
        let l : IsLinked (HasLink (links of.spot.cell)) a b = ((are of.spot.cell cell of.is_cell).same a b).0 (local_of step) in
        let (v, m, j) = by_local number cell of a b w l n in
        (v, record { path = path; number = number; at = spot_at; cell = cell; of_cell = of; node = b; x_is = refl; node_number = m }, subst (λ t. Joined t v) e j)
    link_number x y u (by_pin {path = path} {cell = cell} {instance = i} {port = port} {bit = bit} at pin) is =
        let (number, spot_at, of) = spot_of_cell design valid spots facts path cell at in
        let (inner, found, below) = next_spot design valid spots facts number cell i pin.the_instance of pin.is_there in
        let b : IsBelow spots number i inner = record { spot = spot_of number i pin.the_instance; is_spot = found; no_top = below.no_top; of_parent = refl; of_instance = refl } in
        let s : PinSpot path number cell i port bit inner pin = pin_spot path number cell i port bit inner spot_at of pin b in
        let is_w : Is (At path (Pin i port bit)) _ = record { path = path; number = number; at = spot_at; cell = cell; of_cell = of; node = Pin i port bit; x_is = refl; node_number = of_pin pin b (port_place pin.is_bit) } in
        let is_v : Is (At (pin.the_instance.name ∷ path) (Port port bit)) _ = record { path = pin.the_instance.name ∷ path; number = inner; at = s.at; cell = pin.below; of_cell = s.of_cell; node = Port port bit; x_is = refl; node_number = of_own (port_place pin.is_bit) } in
        let e = one_number (At path (Pin i port bit)) _ u is_w is in
        (u, subst (Is (At (pin.the_instance.name ∷ path) (Port port bit))) e is_v, linked_itself (HasJoin joins) u)
    link_number x y u (by_constant {path = path} {cell = cell} {instance = i} {value = value} at constant) is =
        let (number, spot_at, of) = spot_of_cell design valid spots facts path cell at in
        let (w, n) = node_number number cell (Pin i 0 0) of (constant_pin names design.cells cell value i constant) in
        let is_w : Is (At path (Pin i 0 0)) w = record { path = path; number = number; at = spot_at; cell = cell; of_cell = of; node = Pin i 0 0; x_is = refl; node_number = n } in
        let e : w ≡ u = one_number (At path (Pin i 0 0)) w u is_w is in
        (constant_number value, constant_is path number cell spot_at of value, subst (λ t. Joined t (constant_number value)) e (by_flat_join w (constant_number value) (by_cell of constant n)))

    -- the start of a flat step has a number
    link_start : (x y : FlatNode) → FlatLink names design x y → (u : ℕ) × Is x u
    link_start x y (by_join {path = path} {cell = cell} {x = a} {y = b} at step) =
        let (number, spot_at, of) = spot_of_cell design valid spots facts path cell at in
        let good = valid.good_cells of.spot.cell cell of.is_cell in
        let node : IsNode design.cells cell a = elim step.has_both as (λ _. IsNode design.cells cell a) [
          | inl e ↦ subst (IsNode design.cells cell) e.0 (joined_nodes design.cells cell good step.join step.is_join).0
          | inr e ↦ subst (IsNode design.cells cell) e.1 (joined_nodes design.cells cell good step.join step.is_join).1
        ] in
        let (w, n) = node_number number cell a of node in
        (w, record { path = path; number = number; at = spot_at; cell = cell; of_cell = of; node = a; x_is = refl; node_number = n })
    link_start x y (by_pin {path = path} {cell = cell} {instance = i} {port = port} {bit = bit} at pin) =
        let (number, spot_at, of) = spot_of_cell design valid spots facts path cell at in
        let (w, n) = node_number number cell (Pin i port bit) of pin in
        (w, record { path = path; number = number; at = spot_at; cell = cell; of_cell = of; node = Pin i port bit; x_is = refl; node_number = n })
    link_start x y (by_constant {path = path} {cell = cell} {instance = i} {value = value} at constant) =
        let (number, spot_at, of) = spot_of_cell design valid spots facts path cell at in
        let (w, n) = node_number number cell (Pin i 0 0) of (constant_pin names design.cells cell value i constant) in
        (w, record { path = path; number = number; at = spot_at; cell = cell; of_cell = of; node = Pin i 0 0; x_is = refl; node_number = n })

    step_number : (x y : FlatNode) (u : ℕ) → FlatStep names design x y → Is x u → (v : ℕ) × Is y v × Joined u v
    step_number x y u step is = elim step as (λ _. (v : ℕ) × Is y v × Joined u v) [
      | inl l ↦ link_number x y u l is
      | inr l ↦
          let (v, is_v) = link_start y x l in
          let (w, is_w, j) = link_number y x v l is_v in
          let e : w ≡ u = one_number x w u is_w is in
          (v, is_v, joined_back v u (subst (Joined v) e j))
    ]

    -- a join of numbers is a connection of the flat nodes that have them
    join_nodes : (u v : ℕ) → FlatJoin names design.cells spots base links u v → (x : FlatNode) × (y : FlatNode) × Is x u × Is y v × Connected x y
    join_nodes u v (by_link {number = number} {spot = spot} {cell = cell} {x = a} {y = b} is_spot is_cell linked n m) =
        let (path, at) = spot_has_path design valid spots facts number spot is_spot in
        let of : CellOf design.cells spots number cell = record { spot = spot; is_spot = is_spot; is_cell = is_cell } in
        let l : IsLocallyConnected cell a b = ((are spot.cell cell is_cell).same a b).1 (linked_by (inl linked)) in (
          taken_at path a,
          taken_at path b,
          record { path = path; number = number; at = at; cell = cell; of_cell = of; node = a; x_is = refl; node_number = n },
          record { path = path; number = number; at = at; cell = cell; of_cell = of; node = b; x_is = refl; node_number = m },
          connected_at names design (cell_of_spot design valid spots facts path number cell at of) l,
        )
    join_nodes u v (by_cell {number = number} {cell = cell} {instance = i} {value = value} of constant n) =
        let (path, at) = spot_has_path design valid spots facts number of.spot of.is_spot in (
          At path (Pin i 0 0),
          Constant value,
          record { path = path; number = number; at = at; cell = cell; of_cell = of; node = Pin i 0 0; x_is = refl; node_number = n },
          constant_is path number cell at of value,
          linked_by (inl (by_constant (cell_of_spot design valid spots facts path number cell at of) constant)),
        )

    step_nodes : (x : FlatNode) (u v : ℕ) → HasJoin joins u v → Is x u → (y : FlatNode) × Is y v × Connected x y
    step_nodes x u v step is = elim step as (λ _. (y : FlatNode) × Is y v × Connected x y) [
      | inl m ↦ let (a, b, ha, hb, c) = join_nodes u v ((flat u v).0 m) in (b, hb, linked_along (same_number x a u is ha) c)
      | inr m ↦ let (a, b, ha, hb, c) = join_nodes v u ((flat v u).0 m) in (a, ha, linked_along (same_number x b u is hb) (connected_back names design c))
    ]

    -- two flat nodes are connected exactly where their numbers are
    pub numbers_connected : (x y : FlatNode) (u v : ℕ) → Is x u → Is y v → Joined u v ↔ Connected x y
    numbers_connected x y u v hx hy = (
      λ j. let r = linked_keeps (HasJoin joins) (λ w. (z : FlatNode) × Is z w × Connected x z)
          (λ a b s k. let (z, hz, c) = step_nodes k.0 a b s k.1 in (z, hz, linked_along k.2 c)) u v j (x, hx, linked_itself (FlatStep names design) x) in
          linked_along r.2 (same_number r.0 y v r.1 hy),
      λ c. let r = linked_keeps (FlatStep names design) (λ z. (w : ℕ) × Is z w × Joined u w)
          (λ a b s k. let (w, hw, j) = step_number a b k.0 s k.1 in (w, hw, joined_along u k.0 w k.2 j)) x y c (u, hx, linked_itself (HasJoin joins) u) in
          subst (Joined u) (one_number y r.0 v r.1 hy) r.2,
    )
