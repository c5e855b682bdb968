use Rattle.std.proofs.Common.{◌≡◌, ℕ, ◌⊎◌, inl, inr, [], ◌∷◌, refl, sym, ◌∙◌, subst, subst₂, Some, None, Option, Bool, true, false}
use Rattle.net_hier.specs.Cells.{HasLocalStep, IsBitOrConstant, IsLocallyConnected, IsPinBit, IsPortBit, constant_node}
use Rattle.net_hier.specs.Constants.{ConstantNames}
use Rattle.net_hier.specs.Design.{Design}
use Rattle.net_hier.specs.Flat.{FlatNode, Constant, At, FlatLink, by_join, by_pin, by_constant, FlatStep, IsConnected, taken_at}
use Rattle.net_hier.specs.Paths.{Path, CellAt}
use Rattle.net_hier.specs.SameCells.{SameCells, stand_in, stand_or}
use Rattle.net_hier.specs.Valid.{HasPaths}
use Rattle.net_hier.proofs.PathLaws.{cell_there, one_cell}
use Rattle.net_graph.proofs.WalkLaws.{linked_along, linked_by, linked_itself}
use Rattle.net_hier.proofs.Near.{IsNear, IsJoined, Bridges, connected_at, connected_back, connection_goes_over}
use Rattle.net_hier.proofs.Pairs.{at_below, constant_pin, pin_name, PairAt, instance_forth, pair_of, pair_there, pin_forth}
use Rattle.net_hier.specs.declared.cells.HCell.{HCell}
use Rattle.net_hier.specs.declared.nodes.Node.{Node}
use Rattle.net_hier.specs.declared.nodes.Node.TheVariants.{Port, Pin, Net, Zero, One}

-- the bit of the cell at a path
pub record SharedAt (design : Design) (path : Path) (node : Node) : Type 0 where
  pub cell : HCell
  pub at : CellAt design path cell
  pub is_bit : IsBitOrConstant design.cells cell node
  pub is_taken : At path node ≡ taken_at path node

-- a port bit, a pin bit or a constant of the design
abbrev pub IsShared : Design → FlatNode → Type 0
IsShared design (Constant value) = Unit {0}
IsShared design (At path node) = SharedAt design path node

abbrev pub IsSame : Design → FlatNode → FlatNode → Type 0
IsSame design x y = IsShared design x × (x ≡ y)

pub constant_taken : (path : Path) (value : Bool) → Constant value ≡ taken_at path (constant_node value)
constant_taken path false = refl
constant_taken path true = refl

module _ (design : Design) (valid : HasPaths design) where
  pub shared_near : (x : FlatNode) → IsShared design x → IsNear design x x
  shared_near (Constant value) h =
      let (cell, is_cell) = cell_there design valid [] design.top refl in
      let e : Constant value ≡ taken_at [] (constant_node value) = constant_taken [] value in
      record { path = []; cell = cell; at = record { number = design.top; leads = refl; is_cell = is_cell }; a = constant_node value; b = constant_node value; x_is = e; y_is = e; connected = linked_itself (HasLocalStep cell) (constant_node value) }
  shared_near (At path node) h =
      record { path = path; cell = h.cell; at = h.at; a = node; b = node; x_is = h.is_taken; y_is = h.is_taken; connected = linked_itself (HasLocalStep h.cell) node }

module _ (names : ConstantNames) (design other : Design) (n : Option ℕ) (valid : HasPaths design) (ovalid : HasPaths other) (same : SameCells names design other n) where
  -- a constant is connected in the other design to what stands for it
  stands_for : (path : Path) (cell partner : HCell) (pair : PairAt names design other n path cell partner) (value : Bool) (place : Option ℕ) → pair.same.added value ≡ place →
      IsConnected names other (Constant value) (taken_at path (stand_or place (constant_node value)))
  stands_for path cell partner pair false None e = linked_itself (FlatStep names other) (Constant false)
  stands_for path cell partner pair true None e = linked_itself (FlatStep names other) (Constant true)
  stands_for path cell partner pair value (Some place) e = linked_by (inr (by_constant (pair_there pair) (pair.same.added_after value place e).1))

  stands_in : (path : Path) (cell partner : HCell) (pair : PairAt names design other n path cell partner) (node : Node) → IsConnected names other (taken_at path node) (taken_at path (stand_in pair.same.added node))
  stands_in path cell partner pair (Port port bit) = linked_itself (FlatStep names other) (At path (Port port bit))
  stands_in path cell partner pair (Pin instance port bit) = linked_itself (FlatStep names other) (At path (Pin instance port bit))
  stands_in path cell partner pair (Net net) = linked_itself (FlatStep names other) (At path (Net net))
  stands_in path cell partner pair Zero = stands_for path cell partner pair false (pair.same.added false) refl
  stands_in path cell partner pair One = stands_for path cell partner pair true (pair.same.added true) refl

  shared_bit : (path : Path) (cell : HCell) → CellAt design path cell → (node : Node) → IsShared design (taken_at path node) → IsBitOrConstant design.cells cell node
  shared_bit path cell at (Port port bit) h = subst (λ c. IsPortBit c port bit) (one_cell design valid path h.cell cell h.at at) h.is_bit
  shared_bit path cell at (Pin instance port bit) h = subst (λ c. IsPinBit design.cells c instance port bit) (one_cell design valid path h.cell cell h.at at) h.is_bit
  shared_bit path cell at (Net net) h = h.is_bit
  shared_bit path cell at Zero h = tt
  shared_bit path cell at One h = tt

  near_forth : (b z b' z' : FlatNode) → IsSame design b b' → IsNear design b z → IsSame design z z' → IsConnected names other b' z'
  near_forth b z b' z' sb near sz =
      let (partner, pair) = pair_of names design other n valid ovalid same near.path near.cell near.at in
      let ha : IsBitOrConstant design.cells near.cell near.a = shared_bit near.path near.cell near.at near.a (subst (IsShared design) near.x_is sb.0) in
      let hb : IsBitOrConstant design.cells near.cell near.b = shared_bit near.path near.cell near.at near.b (subst (IsShared design) near.y_is sz.0) in
      let link : IsLocallyConnected partner (stand_in pair.same.added near.a) (stand_in pair.same.added near.b) = (pair.same.same_connection near.a near.b ha hb).0 near.connected in
      subst₂ (IsConnected names other) (sym near.x_is ∙ sb.1) (sym near.y_is ∙ sz.1)
      (linked_along (stands_in near.path near.cell partner pair near.a)
      (linked_along (connected_at names other (pair_there pair) link) (connected_back names other (stands_in near.path near.cell partner pair near.b))))

  bridged : (z w : FlatNode) → IsShared design z → IsShared design w → IsConnected names other z w → Bridges design (IsConnected names other) (IsSame design) z w
  bridged z w hz hw link = record {
    z_partner = z;
    w_partner = w;
    of_z = (hz, refl);
    of_w = (hw, refl);
    near_z = shared_near design valid z hz;
    near_w = shared_near design valid w hw;
    linked = link;
    linked_again = connected_back names other link;
  }

  bridge_forth : (z w : FlatNode) → FlatLink names design z w → IsJoined design z w ⊎ Bridges design (IsConnected names other) (IsSame design) z w
  bridge_forth z w (by_join {path = path} {cell = cell} {x = x} {y = y} at step) = inl (record { path = path; cell = cell; at = at; x = x; y = y; step = step; z_is = refl; w_is = refl })
  bridge_forth z w (by_pin {path = path} {cell = cell} {instance = instance} {port = port} {bit = bit} at pin) =
      let (partner, pair) = pair_of names design other n valid ovalid same path cell at in
      let opin : IsPinBit other.cells partner instance port bit = pin_forth names design other n valid ovalid same path cell partner pair instance port bit pin in
      let e : opin.the_instance.name ≡ pin.the_instance.name = pin_name names design other n valid ovalid same path cell partner pair instance pin.the_instance opin.the_instance pin.is_there opin.is_there in
      inr (bridged (At path (Pin instance port bit)) (At (pin.the_instance.name ∷ path) (Port port bit))
      (record { cell = cell; at = at; is_bit = pin; is_taken = refl })
      (record { cell = pin.below; at = at_below design path cell at instance pin.the_instance pin.below pin.is_there pin.is_below; is_bit = pin.is_bit; is_taken = refl })
      (subst (λ m. IsConnected names other (At path (Pin instance port bit)) (At (m ∷ path) (Port port bit))) e (linked_by (inl (by_pin (pair_there pair) opin)))))
  bridge_forth z w (by_constant {path = path} {cell = cell} {instance = instance} {value = value} at c) =
      let (partner, pair) = pair_of names design other n valid ovalid same path cell at in
      inr (bridged (At path (Pin instance 0 0)) (Constant value)
      (record { cell = cell; at = at; is_bit = constant_pin names design cell value instance c; is_taken = refl })
      tt
      (linked_by (inl (by_constant (pair_there pair) (instance_forth names design other n valid ovalid same path cell partner pair value instance c)))))

  pub connection_forth : (s t : FlatNode) → IsShared design s → IsShared design t → IsConnected names design s t → IsConnected names other s t
  connection_forth s t hs ht link =
      connection_goes_over names design valid (IsConnected names other) (IsSame design) (λ x. linked_itself (FlatStep names other) x) (λ x y z a b. linked_along a b) (λ v. (tt, refl))
      near_forth bridge_forth s t s t link (shared_near design valid s hs) (hs, refl) (ht, refl)
