use Rattle.std.proofs.Common.{◌≡◌, ℕ, ◌≤◌, ◌⊎◌, ◌≢◌, inl, inr, ◌∷◌, refl, sym, ◌∙◌, ap, subst, subst₂, slice_get, Some, None, Option, length, Bool, true, false}
use Rattle.std.proofs.lemmas.Option.{slice_get_within}
use Rattle.net_hier.specs.Cells.{HasLocalStep, IsBitOrConstant, IsConstantCell, IsConstantInstance, IsLocallyConnected, IsPinBit, IsPortBitOrConstant, constant_node}
use Rattle.net_hier.specs.Constants.{ConstantNames, AreConstantNames}
use Rattle.net_hier.specs.Design.{Design, IsCell}
use Rattle.net_hier.specs.Flat.{FlatNode, Constant, At, FlatLink, by_join, by_pin, by_constant, FlatStep, IsConnected, taken_at}
use Rattle.net_hier.specs.Paths.{Path, CellAt}
use Rattle.net_hier.specs.SameCells.{HasFirstCells, AddedAsNeeded, SameCells, stand_in, stand_or}
use Rattle.net_hier.specs.Valid.{HasPaths}
use Rattle.net_hier.proofs.PathLaws.{one_cell, same_element}
use Rattle.net_graph.proofs.WalkLaws.{linked_along, linked_by, linked_itself, linked_alone, linked_back}
use Rattle.net_hier.proofs.Near.{local_turn, taken_injective, IsNear, IsJoined, Bridges, connected_at, connected_back, connection_goes_over}
use Rattle.net_hier.proofs.Pairs.{at_below, constant_bit_only, constant_bit_there, constant_pin, lt_or_le, no_element, none_not_some, one_kind, pin_name, IsBehind, PairAt, behind_constant, instance_back, not_both, pair_here, pair_of, pair_there, path_back, pin_back}
use Rattle.net_hier.specs.declared.cells.HCell.{HCell}
use Rattle.net_hier.specs.declared.cells.HInst.{HInst}
use Rattle.net_hier.specs.declared.nodes.Node.{Node}
use Rattle.net_hier.specs.declared.nodes.Node.TheVariants.{Port, Pin, Net, Zero, One}
use Rattle.net_hier.proofs.Forth.{IsShared, constant_taken, shared_near}

-- the node of the other design stands for a node of this one: the pin of an added instance, and the port behind it, for its constant, and every other for itself
pub data StandsFor (names : ConstantNames) (design other : Design) (n : Option ℕ) : FlatNode → FlatNode → Type 0 where
  constant : (value : Bool) → StandsFor names design other n (Constant value) (Constant value)
  inside : {path : Path} {cell partner : HCell} (pair : PairAt names design other n path cell partner) (node : Node) → IsBitOrConstant design.cells cell node → StandsFor names design other n (At path node) (At path node)
  pin : {path : Path} {cell partner : HCell} (pair : PairAt names design other n path cell partner) (value : Bool) (place : ℕ) → length cell.instances ≤ place → IsConstantInstance names other.cells partner value place →
      StandsFor names design other n (At path (Pin place 0 0)) (Constant value)
  behind : {path : Path} (is_behind : IsBehind names design other n path) → StandsFor names design other n (At path (Port 0 0)) (Constant is_behind.value)

-- a node of a partner that is the stand-in of a node
pub record InPartner (design : Design) (path : Path) (cell : HCell) (added : Bool → Option ℕ) (node : Node) (target : FlatNode) : Type 0 where
  pub origin : Node
  pub is_bit : IsBitOrConstant design.cells cell origin
  pub target_is : taken_at path origin ≡ target
  pub node_is : stand_in added origin ≡ node

-- a constant that no join has
pub record IsLonely (partner : HCell) (node : Node) : Type 0 where
  pub value : Bool
  pub node_is : node ≡ constant_node value
  pub alone : (next : Node) → ¬ HasLocalStep partner node next

constant_only : (path : Path) (node : Node) (value : Bool) → Constant value ≡ taken_at path node → node ≡ constant_node value
constant_only path (Port port bit) value e = absurd (cc)
constant_only path (Pin instance port bit) value e = absurd (cc)
constant_only path (Net net) value e = absurd (cc)
constant_only path Zero false e = refl
constant_only path Zero true e = absurd (cc)
constant_only path One false e = absurd (cc)
constant_only path One true e = refl

stand_self : (added : Bool → Option ℕ) (path other_path : Path) (node : Node) → At other_path node ≡ taken_at path node → stand_in added node ≡ node
stand_self added path other_path (Port port bit) e = refl
stand_self added path other_path (Pin instance port bit) e = refl
stand_self added path other_path (Net net) e = refl
stand_self added path other_path Zero e = absurd (cc)
stand_self added path other_path One e = absurd (cc)

stand_constant : (added : Bool → Option ℕ) (value : Bool) (place : Option ℕ) → added value ≡ place → stand_in added (constant_node value) ≡ stand_or place (constant_node value)
stand_constant added false place e = ap (λ o. stand_or o Zero) e
stand_constant added true place e = ap (λ o. stand_or o One) e

constant_is_bit : (design : Design) (cell : HCell) (value : Bool) → IsBitOrConstant design.cells cell (constant_node value)
constant_is_bit design cell false = tt
constant_is_bit design cell true = tt

-- in a target without literals no join has a constant
no_join : (names : ConstantNames) (design other : Design) (m : Option ℕ) (cell partner : HCell) (added : Bool → Option ℕ) (number : ℕ) → HasFirstCells names other m → AddedAsNeeded m design.cells cell added → IsCell other.cells number partner →
    (value : Bool) (place : ℕ) → added value ≡ Some place → (next : Node) → ¬ HasLocalStep partner (constant_node value) next
no_join names design other None cell partner added number first needed is_cell value place e next step = none_not_some (added value) place (needed value) e
no_join names design other (Some m) cell partner added number first needed is_cell value place e next step =
    let free : (step.join.a ≢ constant_node value) × (step.join.b ≢ constant_node value) = first.1.no_join number partner step.join value is_cell step.is_join in
    elim step.has_both [ inl both ↦ free.0 both.0 | inr both ↦ free.1 both.1 ]

module _ (names : ConstantNames) (design other : Design) (n : Option ℕ) (valid : HasPaths design) (ovalid : HasPaths other) (same : SameCells names design other n) (differ : AreConstantNames names) where
  constant_target : (value : Bool) (node target : FlatNode) → node ≡ Constant value → StandsFor names design other n node target → target ≡ Constant value
  constant_target value node target e (constant v) = e
  constant_target value node target e (inside pair x is_bit) = absurd (cc)
  constant_target value node target e (pin pair v place le c) = absurd (cc)
  constant_target value node target e (behind is_behind) = absurd (cc)

  -- an instance of a constant cell behind the others is the added one
  added_here : (path : Path) (cell partner : HCell) (pair : PairAt names design other n path cell partner) (value : Bool) (place : ℕ) → length cell.instances ≤ place → IsConstantInstance names other.cells partner value place → pair.same.added value ≡ Some place
  added_here path cell partner pair value place le c =
      let (v, e) = pair.same.added_alone place le (slice_get_within partner.instances place c.the_instance c.is_there) in
      let d : IsConstantInstance names other.cells partner v place = (pair.same.added_after v place e).1 in
      let p : d.the_instance ≡ c.the_instance = same_element partner.instances place d.the_instance c.the_instance d.is_there c.is_there in
      let q : d.below ≡ c.below = same_element other.cells c.the_instance.cell d.below c.below (subst (λ i. IsCell other.cells i.cell d.below) p d.is_below) c.is_below in
      let k : v ≡ value = one_kind names differ v value c.below (subst (IsConstantCell names v) q d.is_constant) c.is_constant in
      subst (λ w. pair.same.added w ≡ Some place) k e

  constant_in_partner : (path : Path) (cell partner : HCell) (pair : PairAt names design other n path cell partner) (value : Bool) (place : Option ℕ) → pair.same.added value ≡ place →
      InPartner design path cell pair.same.added (constant_node value) (Constant value) ⊎ IsLonely partner (constant_node value)
  constant_in_partner path cell partner pair value None e =
      inl (record { origin = constant_node value; is_bit = constant_is_bit design cell value; target_is = sym (constant_taken path value); node_is = stand_constant pair.same.added value None e })
  constant_in_partner path cell partner pair value (Some place) e =
      inr (record { value = value; node_is = refl; alone = no_join names design other n cell partner pair.same.added pair.onumber same.first pair.same.as_needed pair.is_ocell value place e })

  in_partner : (path : Path) (cell partner : HCell) (pair : PairAt names design other n path cell partner) (node : Node) (flat target : FlatNode) → flat ≡ taken_at path node →
      StandsFor names design other n flat target → InPartner design path cell pair.same.added node target ⊎ IsLonely partner node
  in_partner path cell partner pair node flat target e (constant value) =
      let p : node ≡ constant_node value = constant_only path node value e in
      subst (λ x. InPartner design path cell pair.same.added x (Constant value) ⊎ IsLonely partner x) (sym p) (constant_in_partner path cell partner pair value (pair.same.added value) refl)
  in_partner path cell partner pair node flat target e (inside {path = inner} {cell = icell} {partner = ipartner} ipair inode is_bit) =
      let p : (path ≡ inner) × (node ≡ inode) = taken_injective path inner node inode e in
      let c : icell ≡ cell = one_cell design valid inner icell cell (pair_here ipair) (subst (λ q. CellAt design q cell) p.0 (pair_here pair)) in
      let t : At inner inode ≡ taken_at path inode = subst (λ x. At inner inode ≡ taken_at path x) p.1 e in
      inl (record { origin = inode; is_bit = subst (λ w. IsBitOrConstant design.cells w inode) c is_bit; target_is = sym t; node_is = stand_self pair.same.added path inner inode t ∙ sym p.1 })
  in_partner path cell partner pair node flat target e (pin {path = inner} {cell = icell} {partner = ipartner} ipair value place le c) =
      let p : (path ≡ inner) × (node ≡ Pin place 0 0) = taken_injective path inner node (Pin place 0 0) e in
      let ic : icell ≡ cell = one_cell design valid inner icell cell (pair_here ipair) (subst (λ q. CellAt design q cell) p.0 (pair_here pair)) in
      let ip : ipartner ≡ partner = one_cell other ovalid inner ipartner partner (pair_there ipair) (subst (λ q. CellAt other q partner) p.0 (pair_there pair)) in
      let a : pair.same.added value ≡ Some place = added_here path cell partner pair value place (subst (λ w. length w.instances ≤ place) ic le) (subst (λ w. IsConstantInstance names other.cells w value place) ip c) in
      inl (record { origin = constant_node value; is_bit = constant_is_bit design cell value; target_is = sym (constant_taken path value); node_is = stand_constant pair.same.added value (Some place) a ∙ sym p.1 })
  in_partner path cell partner pair node flat target e (behind {path = inner} is_behind) =
      let p : (path ≡ inner) × (node ≡ Port 0 0) = taken_injective path inner node (Port 0 0) e in
      absurd (not_both names design other n valid ovalid same path cell partner pair (subst (IsBehind names design other n) (sym p.0) is_behind))

  lonely_linked : (path : Path) (partner : HCell) (x y : Node) (x' y' : FlatNode) → IsLonely partner x →
      StandsFor names design other n (taken_at path x) x' → IsLocallyConnected partner x y → StandsFor names design other n (taken_at path y) y' → IsConnected names design x' y'
  lonely_linked path partner x y x' y' lonely sx link sy =
      let e : x ≡ y = linked_alone (HasLocalStep partner) x lonely.alone link in
      let c : taken_at path x ≡ Constant lonely.value = ap (taken_at path) lonely.node_is ∙ sym (constant_taken path lonely.value) in
      let ex : x' ≡ Constant lonely.value = constant_target lonely.value (taken_at path x) x' c sx in
      let ey : y' ≡ Constant lonely.value = constant_target lonely.value (taken_at path y) y' (ap (taken_at path) (sym e) ∙ c) sy in
      subst₂ (IsConnected names design) (sym ex) (sym ey) (linked_itself (FlatStep names design) (Constant lonely.value))

  near_pair : (path : Path) (cell partner : HCell) (pair : PairAt names design other n path cell partner) (x y : Node) (x' y' : FlatNode) →
      StandsFor names design other n (taken_at path x) x' → IsLocallyConnected partner x y → StandsFor names design other n (taken_at path y) y' → IsConnected names design x' y'
  near_pair path cell partner pair x y x' y' sx link sy =
      elim (in_partner path cell partner pair x (taken_at path x) x' refl sx) [
        | inr lonely ↦ lonely_linked path partner x y x' y' lonely sx link sy
        | inl a ↦ elim (in_partner path cell partner pair y (taken_at path y) y' refl sy) [
          | inr lonely ↦ connected_back names design (lonely_linked path partner y x y' x' lonely sy (linked_back (HasLocalStep partner) (λ v w s. local_turn s) link) sx)
          | inl b ↦ subst₂ (IsConnected names design) a.target_is b.target_is
              (connected_at names design (pair_here pair)
              ((pair.same.same_connection a.origin b.origin a.is_bit b.is_bit).1 (subst₂ (IsLocallyConnected partner) (sym a.node_is) (sym b.node_is) link)))
        ]
      ]

  -- what a node of an added instance's cell stands for
  behind_target : Bool → Node → FlatNode
  behind_target value Zero = Constant false
  behind_target value One = Constant true
  behind_target value x = Constant value

  constant_behind_target : (leaf : HCell) (value kind : Bool) → IsPortBitOrConstant leaf (constant_node kind) × (Constant kind ≡ behind_target value (constant_node kind))
  unfolding behind_target
  constant_behind_target leaf value false = (tt, refl)
  constant_behind_target leaf value true = (tt, refl)

  at_behind : (path : Path) (leaf : HCell) → CellAt other path leaf → (is_behind : IsBehind names design other n path) → (node : Node) (flat target : FlatNode) → flat ≡ taken_at path node →
      StandsFor names design other n flat target → IsPortBitOrConstant leaf node × (target ≡ behind_target is_behind.value node)
  unfolding behind_target
  at_behind path leaf at is_behind node flat target e (constant value) =
      subst (λ x. IsPortBitOrConstant leaf x × (Constant value ≡ behind_target is_behind.value x)) (sym (constant_only path node value e)) (constant_behind_target leaf is_behind.value value)
  at_behind path leaf at is_behind node flat target e (inside {path = inner} {cell = icell} {partner = ipartner} ipair inode is_bit) =
      let p : (path ≡ inner) × (node ≡ inode) = taken_injective path inner node inode e in
      absurd (not_both names design other n valid ovalid same inner icell ipartner ipair (subst (IsBehind names design other n) p.0 is_behind))
  at_behind path leaf at is_behind node flat target e (pin {path = inner} {cell = icell} {partner = ipartner} ipair value place le c) =
      let p : (path ≡ inner) × (node ≡ Pin place 0 0) = taken_injective path inner node (Pin place 0 0) e in
      absurd (not_both names design other n valid ovalid same inner icell ipartner ipair (subst (IsBehind names design other n) p.0 is_behind))
  at_behind path leaf at is_behind node flat target e (behind {path = inner} ibehind) =
      let p : (path ≡ inner) × (node ≡ Port 0 0) = taken_injective path inner node (Port 0 0) e in
      let c : IsConstantCell names is_behind.value leaf = behind_constant names design other n valid ovalid same path leaf is_behind at in
      let d : IsConstantCell names ibehind.value leaf = behind_constant names design other n valid ovalid same inner leaf ibehind (subst (λ q. CellAt other q leaf) p.0 at) in
      let k : ibehind.value ≡ is_behind.value = one_kind names differ ibehind.value is_behind.value leaf d c in
      subst (λ x. IsPortBitOrConstant leaf x × (Constant ibehind.value ≡ behind_target is_behind.value x)) (sym p.1) (constant_bit_there names is_behind.value leaf c, ap Constant k)

  near_behind : (path : Path) (leaf : HCell) → CellAt other path leaf → IsBehind names design other n path → (x y : Node) (x' y' : FlatNode) →
      StandsFor names design other n (taken_at path x) x' → IsLocallyConnected leaf x y → StandsFor names design other n (taken_at path y) y' → IsConnected names design x' y'
  near_behind path leaf at is_behind x y x' y' sx link sy =
      let c : IsConstantCell names is_behind.value leaf = behind_constant names design other n valid ovalid same path leaf is_behind at in
      let a : IsPortBitOrConstant leaf x × (x' ≡ behind_target is_behind.value x) = at_behind path leaf at is_behind x (taken_at path x) x' refl sx in
      let b : IsPortBitOrConstant leaf y × (y' ≡ behind_target is_behind.value y) = at_behind path leaf at is_behind y (taken_at path y) y' refl sy in
      let e : x ≡ y = c.is_leaf.apart x y a.0 b.0 link in
      let f : x' ≡ y' = a.1 ∙ (ap (behind_target is_behind.value) e ∙ sym b.1) in
      subst (IsConnected names design x') f (linked_itself (FlatStep names design) x')

  near_back : (b z b' z' : FlatNode) → StandsFor names design other n b b' → IsNear other b z → StandsFor names design other n z z' → IsConnected names design b' z'
  near_back b z b' z' sb near sz =
      let tb : StandsFor names design other n (taken_at near.path near.a) b' = subst (λ x. StandsFor names design other n x b') near.x_is sb in
      let tz : StandsFor names design other n (taken_at near.path near.b) z' = subst (λ x. StandsFor names design other n x z') near.y_is sz in
      elim (path_back names design other n valid ovalid same near.path near.cell near.at) [
        | inl found ↦ near_pair near.path found.0 near.cell found.1 near.a near.b b' z' tb near.connected tz
        | inr is_behind ↦ near_behind near.path near.cell near.at is_behind near.a near.b b' z' tb near.connected tz
      ]

  bridged_back : (z w z' w' : FlatNode) → StandsFor names design other n z z' → StandsFor names design other n w w' → IsShared other z → IsShared other w → IsConnected names design z' w' →
      Bridges other (IsConnected names design) (StandsFor names design other n) z w
  bridged_back z w z' w' sz sw hz hw link = record {
    z_partner = z';
    w_partner = w';
    of_z = sz;
    of_w = sw;
    near_z = shared_near other ovalid z hz;
    near_w = shared_near other ovalid w hw;
    linked = link;
    linked_again = connected_back names design link;
  }

  pin_bridge : (path : Path) (cell partner : HCell) (pair : PairAt names design other n path cell partner) (instance port bit : ℕ) (opin : IsPinBit other.cells partner instance port bit) →
      Bridges other (IsConnected names design) (StandsFor names design other n) (At path (Pin instance port bit)) (At (opin.the_instance.name ∷ path) (Port port bit))
  pin_bridge path cell partner pair instance port bit opin =
      let hz : IsShared other (At path (Pin instance port bit)) = record { cell = partner; at = pair_there pair; is_bit = opin; is_taken = refl } in
      let hw : IsShared other (At (opin.the_instance.name ∷ path) (Port port bit)) =
      record { cell = opin.below; at = at_below other path partner (pair_there pair) instance opin.the_instance opin.below opin.is_there opin.is_below; is_bit = opin.is_bit; is_taken = refl } in
      elim (lt_or_le instance (length cell.instances)) [
        | inl lt ↦
            let dpin : IsPinBit design.cells cell instance port bit = pin_back names design other n valid ovalid same path cell partner pair instance port bit lt opin in
            let e : opin.the_instance.name ≡ dpin.the_instance.name = pin_name names design other n valid ovalid same path cell partner pair instance dpin.the_instance opin.the_instance dpin.is_there opin.is_there in
            let (below_partner, below) = pair_of names design other n valid ovalid same (dpin.the_instance.name ∷ path) dpin.below (at_below design path cell (pair_here pair) instance dpin.the_instance dpin.below dpin.is_there dpin.is_below) in
            let sw : StandsFor names design other n (At (dpin.the_instance.name ∷ path) (Port port bit)) (At (dpin.the_instance.name ∷ path) (Port port bit)) = inside below (Port port bit) dpin.is_bit in
            bridged_back (At path (Pin instance port bit)) (At (opin.the_instance.name ∷ path) (Port port bit)) (At path (Pin instance port bit)) (At (dpin.the_instance.name ∷ path) (Port port bit))
            (inside pair (Pin instance port bit) dpin)
            (subst (λ m. StandsFor names design other n (At (m ∷ path) (Port port bit)) (At (dpin.the_instance.name ∷ path) (Port port bit))) (sym e) sw)
            hz hw (linked_by (inl (by_pin (pair_here pair) dpin)))
        | inr le ↦
            let (v, added) = pair.same.added_alone instance le (slice_get_within partner.instances instance opin.the_instance opin.is_there) in
            let c : IsConstantInstance names other.cells partner v instance = (pair.same.added_after v instance added).1 in
            let p : c.the_instance ≡ opin.the_instance = same_element partner.instances instance c.the_instance opin.the_instance c.is_there opin.is_there in
            let q : c.below ≡ opin.below = same_element other.cells opin.the_instance.cell c.below opin.below (subst (λ i. IsCell other.cells i.cell c.below) p c.is_below) opin.is_below in
            let z : (port ≡ 0) × (bit ≡ 0) = constant_bit_only names v opin.below (subst (IsConstantCell names v) q c.is_constant) port bit opin.is_bit in
            let there : IsBehind names design other n (opin.the_instance.name ∷ path) =
            record { above = path; cell = cell; partner = partner; pair = pair; value = v; place = instance; is_added = added; instance = opin.the_instance; is_there = opin.is_there; path_is = refl } in
            bridged_back (At path (Pin instance port bit)) (At (opin.the_instance.name ∷ path) (Port port bit)) (Constant v) (Constant v)
            (subst₂ (λ j b. StandsFor names design other n (At path (Pin instance j b)) (Constant v)) (sym z.0) (sym z.1) (pin pair v instance le c))
            (subst₂ (λ j b. StandsFor names design other n (At (opin.the_instance.name ∷ path) (Port j b)) (Constant v)) (sym z.0) (sym z.1) (behind there))
            hz hw (linked_itself (FlatStep names design) (Constant v))
      ]

  constant_bridge : (path : Path) (cell partner : HCell) (pair : PairAt names design other n path cell partner) (value : Bool) (instance : ℕ) (c : IsConstantInstance names other.cells partner value instance) →
      Bridges other (IsConnected names design) (StandsFor names design other n) (At path (Pin instance 0 0)) (Constant value)
  constant_bridge path cell partner pair value instance c =
      let hz : IsShared other (At path (Pin instance 0 0)) = record { cell = partner; at = pair_there pair; is_bit = constant_pin names other partner value instance c; is_taken = refl } in
      elim (lt_or_le instance (length cell.instances)) [
        | inl lt ↦
            let d : IsConstantInstance names design.cells cell value instance = instance_back names design other n valid ovalid same path cell partner pair value instance lt c in
            bridged_back (At path (Pin instance 0 0)) (Constant value) (At path (Pin instance 0 0)) (Constant value)
            (inside pair (Pin instance 0 0) (constant_pin names design cell value instance d)) (constant value) hz tt (linked_by (inl (by_constant (pair_here pair) d)))
        | inr le ↦ bridged_back (At path (Pin instance 0 0)) (Constant value) (Constant value) (Constant value) (pin pair value instance le c) (constant value) hz tt (linked_itself (FlatStep names design) (Constant value))
      ]

  nothing_behind : (path : Path) (leaf : HCell) → CellAt other path leaf → IsBehind names design other n path → (place : ℕ) (instance : HInst) → ¬ (slice_get leaf.instances place ≡ Some instance)
  nothing_behind path leaf at is_behind place instance there =
      let c : IsConstantCell names is_behind.value leaf = behind_constant names design other n valid ovalid same path leaf is_behind at in
      no_element leaf.instances place instance c.is_leaf.no_instances there

  bridge_back : (z w : FlatNode) → FlatLink names other z w → IsJoined other z w ⊎ Bridges other (IsConnected names design) (StandsFor names design other n) z w
  bridge_back z w (by_join {path = path} {cell = cell} {x = x} {y = y} at step) = inl (record { path = path; cell = cell; at = at; x = x; y = y; step = step; z_is = refl; w_is = refl })
  bridge_back z w (by_pin {path = path} {cell = partner} {instance = instance} {port = port} {bit = bit} at opin) = inr (elim (path_back names design other n valid ovalid same path partner at) [
    | inl found ↦ pin_bridge path found.0 partner found.1 instance port bit opin
    | inr is_behind ↦ absurd (nothing_behind path partner at is_behind instance opin.the_instance opin.is_there)
  ])
  bridge_back z w (by_constant {path = path} {cell = partner} {instance = instance} {value = value} at c) = inr (elim (path_back names design other n valid ovalid same path partner at) [
    | inl found ↦ constant_bridge path found.0 partner found.1 value instance c
    | inr is_behind ↦ absurd (nothing_behind path partner at is_behind instance c.the_instance c.is_there)
  ])

  stands_itself : (x : FlatNode) → IsShared design x → StandsFor names design other n x x
  stands_itself (Constant value) h = constant value
  stands_itself (At path node) h = let (partner, pair) = pair_of names design other n valid ovalid same path h.cell h.at in inside pair node h.is_bit

  near_there : (x : FlatNode) → IsShared design x → IsNear other x x
  near_there (Constant value) h = shared_near other ovalid (Constant value) tt
  near_there (At path node) h =
      let (partner, pair) = pair_of names design other n valid ovalid same path h.cell h.at in
      record { path = path; cell = partner; at = pair_there pair; a = node; b = node; x_is = h.is_taken; y_is = h.is_taken; connected = linked_itself (HasLocalStep partner) node }

  pub connection_back : (s t : FlatNode) → IsShared design s → IsShared design t → IsConnected names other s t → IsConnected names design s t
  connection_back s t hs ht link =
      connection_goes_over names other ovalid (IsConnected names design) (StandsFor names design other n) (λ x. linked_itself (FlatStep names design) x) (λ x y z a b. linked_along a b) (λ v. constant v)
      near_back bridge_back s t s t link (near_there s hs) (stands_itself s hs) (stands_itself t ht)
