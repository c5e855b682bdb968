-- Connection goes over from a design to the design of its subcircuits, and back.
use Rattle.std.proofs.Common.{◌≡◌, ℕ, ◌<◌, ◌⊎◌, inl, inr, Bool, true, false, List, ◌∷◌, Some, length, slice_get, refl, sym, ◌∙◌, ap, subst, subst₂, arith}
use Rattle.std.specs.Prelude.{◌↔◌}
use Rattle.std.proofs.lemmas.Option.{slice_get_within}
use Rattle.net_graph.proofs.ListLaws.{element_there, same_element}
use Rattle.net_graph.proofs.WalkLaws.{linked_along, linked_by, linked_itself}
use Rattle.net_hier.specs.Cells.{IsBitOrConstant, IsLocallyConnected, IsPinBit, IsPortBit, constant_node, width_of}
use Rattle.net_hier.specs.Design.{Design, IsCell}
use Rattle.net_hier.specs.Flat.{At, Constant, FlatLink, FlatNode, FlatStep, IsConnected, by_constant, by_join, by_pin, taken_at}
use Rattle.net_hier.specs.Paths.{CellAt, Path}
use Rattle.net_hier.specs.Valid.{HasPaths, IsValid}
use Rattle.net_hier.specs.declared.cells.HCell.{HCell}
use Rattle.net_hier.specs.declared.cells.HInst.{HInst}
use Rattle.net_hier.specs.declared.cells.HPort.{HPort}
use Rattle.net_hier.specs.declared.nodes.Node.{Node}
use Rattle.net_hier.specs.declared.nodes.Node.TheVariants.{Port, Pin, Net, Zero, One}
use Rattle.net_hier.proofs.Forth.{constant_taken, shared_near}
use Rattle.net_hier.proofs.Near.{Bridges, IsJoined, IsNear, connected_at, connected_back, connection_goes_over, taken_injective}
use Rattle.net_hier.proofs.Pairs.{at_below}
use Rattle.net_hier.proofs.Partners.{valid_has_paths}
use Rattle.net_hier.proofs.PathLaws.{one_cell}
use Rattle.net_stars.specs.Stars.{IsBit}
use Rattle.spice_text.specs.declared.file.SpiceFile.{SpiceFile}
use Rattle.spice_text.specs.declared.file.Subckt.{Subckt}
use Rattle.to_spice_rules.specs.Answers.{KeepsRules}
use Rattle.to_spice_rules.specs.PortWords.{port_words}
use Rattle.spice_partners.specs.Partners.{AreSubcktsFor, IsCallFor, IsSubcktFor, pin_place, scalar_node}
use Rattle.spice_partners.specs.Places.{place_of}
use Rattle.spice_partners.specs.SpiceDesign.{cell_in, instance_in, scalar_port, spice_design}
use Rattle.spice_partners.proofs.Lists.{HasPlace, bit_at, word_there}
use Rattle.spice_partners.proofs.Local.{bit_back, bit_is, bit_of, call_of, pin_place_is, same_local}
use Rattle.spice_partners.proofs.Paths.{PairAt, below_there, map_there, mapped, other_paths, pair_back, pair_of}
use Rattle.spice_partners.proofs.Plain.{HasNames, nameless, no_constant}

-- a constant is taken as its node alone
constant_only : (path : Path) (node : Node) (value : Bool) → Constant value ≡ taken_at path node → node ≡ constant_node value
constant_only path (Port port bit) value e = absurd (cc)
constant_only path (Pin instance port bit) value e = absurd (cc)
constant_only path (Net net) value e = absurd (cc)
constant_only path Zero false e = refl
constant_only path Zero true e = absurd (cc)
constant_only path One false e = absurd (cc)
constant_only path One true e = refl

bit_taken : (cells : List HCell) (cell : HCell) (path : Path) (x : Node) → IsBit cells cell x → At path x ≡ taken_at path x
bit_taken cells cell path (Port port bit) h = refl
bit_taken cells cell path (Pin instance port bit) h = refl
bit_taken cells cell path (Net net) h = absurd h
bit_taken cells cell path Zero h = absurd h
bit_taken cells cell path One h = absurd h

scalar_taken : (cells : List HCell) (cell : HCell) (path : Path) (x : Node) → IsBit cells cell x → At path (scalar_node cells cell x) ≡ taken_at path (scalar_node cells cell x)
scalar_taken cells cell path (Port port bit) h = refl
scalar_taken cells cell path (Pin instance port bit) h = refl
scalar_taken cells cell path (Net net) h = absurd h
scalar_taken cells cell path Zero h = absurd h
scalar_taken cells cell path One h = absurd h

constant_is : (cells : List HCell) (cell : HCell) (value : Bool) → IsBitOrConstant cells cell (constant_node value)
constant_is cells cell false = tt
constant_is cells cell true = tt

constant_scalar : (cells : List HCell) (cell : HCell) (value : Bool) → scalar_node cells cell (constant_node value) ≡ constant_node value
constant_scalar cells cell false = refl
constant_scalar cells cell true = refl

module _ (design : Design) (valid : IsValid design) (keeps : KeepsRules design.cells) (file : SpiceFile) (are : AreSubcktsFor design file.cells) (named : HasNames design) (onamed : HasNames (spice_design file)) where
  abbrev other : Design
  other = spice_design file

  paths : HasPaths design
  paths = valid_has_paths design valid

  opaths : HasPaths other
  opaths = other_paths design valid keeps file are

  abbrev Pair : Path → HCell → Type 0
  Pair = PairAt design valid keeps file are

  abbrev Here : FlatNode → FlatNode → Type 0
  Here = IsConnected nameless design

  abbrev There : FlatNode → FlatNode → Type 0
  There = IsConnected nameless other

  -- what stands in the other design for a constant, a port bit or a pin bit
  pub data Stands : FlatNode → FlatNode → Type 0 where
    constant : (value : Bool) → Stands (Constant value) (Constant value)
    inside : {path : Path} {cell : HCell} (pair : Pair path cell) (node : Node) → IsBit design.cells cell node → Stands (At path node) (At path (scalar_node design.cells cell node))

  local_same : (path : Path) (cell : HCell) (pair : Pair path cell) (x y : Node) → IsBitOrConstant design.cells cell x → IsBitOrConstant design.cells cell y →
      IsLocallyConnected cell x y ↔ IsLocallyConnected (cell_in file.cells pair.subckt) (scalar_node design.cells cell x) (scalar_node design.cells cell y)
  local_same path cell pair x y hx hy = same_local design.cells cell pair.subckt pair.is_for (keeps.connections.constants pair.at.number cell pair.at.is_cell) file.cells x y hx hy

  -- ---- forth
  record IsLocal (path : Path) (cell : HCell) (node : Node) (target : FlatNode) : Type 0 where
    is_bit : IsBitOrConstant design.cells cell node
    target_is : target ≡ taken_at path (scalar_node design.cells cell node)

  local_of : (path : Path) (cell : HCell) → CellAt design path cell → (node : Node) (flat target : FlatNode) → flat ≡ taken_at path node → Stands flat target → IsLocal path cell node target
  local_of path cell at node flat target e (constant value) =
      let p : node ≡ constant_node value = constant_only path node value e in
      subst (λ x. IsLocal path cell x (Constant value)) (sym p)
      (record { is_bit = constant_is design.cells cell value; target_is = constant_taken path value ∙ ap (taken_at path) (sym (constant_scalar design.cells cell value)) })
  local_of path cell at node flat target e (inside {path = inner} {cell = icell} pair inode bit) =
      let p : (path ≡ inner) × (node ≡ inode) = taken_injective path inner node inode e in
      let c : icell ≡ cell = one_cell design paths inner icell cell pair.at (subst (λ q. CellAt design q cell) p.0 at) in
      let here : IsBit design.cells cell node = subst₂ (λ w x. IsBit design.cells w x) c (sym p.1) bit in
      let t : At inner (scalar_node design.cells icell inode) ≡ At path (scalar_node design.cells cell node) =
      ap (λ q. At q (scalar_node design.cells icell inode)) (sym p.0) ∙ (ap (λ w. At path (scalar_node design.cells w inode)) c ∙ ap (λ x. At path (scalar_node design.cells cell x)) (sym p.1)) in
      record { is_bit = bit_is design.cells cell node here; target_is = t ∙ scalar_taken design.cells cell path node here }

  near_forth : (b z b' z' : FlatNode) → Stands b b' → IsNear design b z → Stands z z' → There b' z'
  near_forth b z b' z' sb near sz =
      let pair : Pair near.path near.cell = pair_of design valid keeps file are near.path near.cell near.at in
      let lb : IsLocal near.path near.cell near.a b' = local_of near.path near.cell near.at near.a b b' near.x_is sb in
      let lz : IsLocal near.path near.cell near.b z' = local_of near.path near.cell near.at near.b z z' near.y_is sz in
      let link = (local_same near.path near.cell pair near.a near.b lb.is_bit lz.is_bit).0 near.connected in
      subst₂ There (sym lb.target_is) (sym lz.target_is) (connected_at nameless other pair.there link)

  -- a port bit of a cell is a port of the cell of its subcircuit
  scalar_bit : (cell : HCell) (subckt : Subckt) → IsSubcktFor design.cells cell subckt → (port bit : ℕ) → IsPortBit cell port bit → IsPortBit (cell_in file.cells subckt) (place_of cell port bit) 0
  scalar_bit cell subckt is port bit h =
      let there = word_there cell.ports port bit (bit_of cell port bit h) in
      let word : slice_get subckt.ports (place_of cell port bit) ≡ Some _ = ap (λ l. slice_get l (place_of cell port bit)) is.same_ports ∙ there in
      record { the_port = scalar_port _; is_there = map_there scalar_port subckt.ports (place_of cell port bit) _ word; within = omega arith }

  -- the pin of the call of an instance
  record IsPinThere (path : Path) (cell : HCell) (pair : Pair path cell) (instance port bit : ℕ) (pin : IsPinBit design.cells cell instance port bit) : Type 0 where
    opin : IsPinBit other.cells (cell_in file.cells pair.subckt) instance (place_of pin.below port bit) 0
    same_name : opin.the_instance.name ≡ pin.the_instance.name

  pin_there : (path : Path) (cell : HCell) (pair : Pair path cell) (instance port bit : ℕ) (pin : IsPinBit design.cells cell instance port bit) → IsPinThere path cell pair instance port bit pin
  pin_there path cell pair instance port bit pin =
      let c = call_of design.cells cell pair.subckt pair.is_for instance pin.the_instance pin.is_there in
      let s = below_there design valid keeps file are pin.the_instance c.0 c.2 in
      let same : s.2.cell ≡ pin.below = same_element design.cells pin.the_instance.cell s.2.cell pin.below s.2.is_cell pin.is_below in
      let for_below : IsSubcktFor design.cells pin.below s.0 = subst (λ x. IsSubcktFor design.cells x s.0) same s.2.is_for in
      record {
        opin = record {
          the_instance = instance_in file.cells c.0;
          is_there = map_there (instance_in file.cells) pair.subckt.calls instance c.0 c.1;
          below = cell_in file.cells s.0;
          is_below = map_there (cell_in file.cells) file.cells _ s.0 s.1;
          is_bit = scalar_bit pin.below s.0 for_below port bit pin.is_bit;
        };
        same_name = c.2.same_name;
      }

  bridge_forth : (z w : FlatNode) → FlatLink nameless design z w → IsJoined design z w ⊎ Bridges design There Stands z w
  bridge_forth z w (by_join {path = path} {cell = cell} {x = x} {y = y} at step) = inl (record { path = path; cell = cell; at = at; x = x; y = y; step = step; z_is = refl; w_is = refl })
  bridge_forth z w (by_pin {path = path} {cell = cell} {instance = instance} {port = port} {bit = bit} at pin) =
      let pair : Pair path cell = pair_of design valid keeps file are path cell at in
      let below_at : CellAt design (pin.the_instance.name ∷ path) pin.below = at_below design path cell at instance pin.the_instance pin.below pin.is_there pin.is_below in
      let below : Pair (pin.the_instance.name ∷ path) pin.below = pair_of design valid keeps file are (pin.the_instance.name ∷ path) pin.below below_at in
      let t : IsPinThere path cell pair instance port bit pin = pin_there path cell pair instance port bit pin in
      let place : ℕ = place_of pin.below port bit in
      let link : There (At path (Pin instance (pin_place design.cells cell instance port bit) 0)) (At (pin.the_instance.name ∷ path) (Port place 0)) =
      subst₂ (λ n m. There (At path (Pin instance n 0)) (At (m ∷ path) (Port place 0))) (sym (pin_place_is design.cells cell instance port bit pin)) t.same_name (linked_by (inl (by_pin pair.there t.opin))) in
      inr (record {
        z_partner = At path (scalar_node design.cells cell (Pin instance port bit));
        w_partner = At (pin.the_instance.name ∷ path) (scalar_node design.cells pin.below (Port port bit));
        of_z = inside pair (Pin instance port bit) pin;
        of_w = inside below (Port port bit) pin.is_bit;
        near_z = shared_near design paths (At path (Pin instance port bit)) (record { cell = cell; at = at; is_bit = pin; is_taken = refl });
        near_w = shared_near design paths (At (pin.the_instance.name ∷ path) (Port port bit)) (record { cell = pin.below; at = below_at; is_bit = pin.is_bit; is_taken = refl });
        linked = link;
        linked_again = connected_back nameless other link;
      })
  bridge_forth z w (by_constant {value = value} at c) = absurd (no_constant design named value c.the_instance.cell c.below c.is_below c.is_constant)

  -- ---- back
  record IsSource (path : Path) (cell : HCell) (flat : FlatNode) (node : Node) : Type 0 where
    source : Node
    is_bit : IsBitOrConstant design.cells cell source
    flat_is : flat ≡ taken_at path source
    node_is : scalar_node design.cells cell source ≡ node

  source_of : (path : Path) (cell : HCell) → CellAt design path cell → (node : Node) (flat target : FlatNode) → target ≡ taken_at path node → Stands flat target → IsSource path cell flat node
  source_of path cell at node flat target e (constant value) = record {
    source = constant_node value;
    is_bit = constant_is design.cells cell value;
    flat_is = constant_taken path value;
    node_is = constant_scalar design.cells cell value ∙ sym (constant_only path node value e);
  }
  source_of path cell at node flat target e (inside {path = inner} {cell = icell} pair inode bit) =
      let p : (path ≡ inner) × (node ≡ scalar_node design.cells icell inode) = taken_injective path inner node (scalar_node design.cells icell inode) e in
      let c : icell ≡ cell = one_cell design paths inner icell cell pair.at (subst (λ q. CellAt design q cell) p.0 at) in
      let here : IsBit design.cells cell inode = subst (λ w. IsBit design.cells w inode) c bit in
      record {
        source = inode;
        is_bit = bit_is design.cells cell inode here;
        flat_is = ap (λ q. At q inode) (sym p.0) ∙ bit_taken design.cells cell path inode here;
        node_is = sym (p.1 ∙ ap (λ w. scalar_node design.cells w inode) c);
      }

  near_back : (b z b' z' : FlatNode) → Stands b' b → IsNear other b z → Stands z' z → Here b' z'
  near_back b z b' z' sb near sz =
      let found = pair_back design valid keeps file are near.path near.cell near.at in
      let cell : HCell = found.0 in
      let pair : Pair near.path cell = found.1 in
      let sa : IsSource near.path cell b' near.a = source_of near.path cell pair.at near.a b' b near.x_is sb in
      let sc : IsSource near.path cell z' near.b = source_of near.path cell pair.at near.b z' z near.y_is sz in
      let link : IsLocallyConnected (cell_in file.cells pair.subckt) (scalar_node design.cells cell sa.source) (scalar_node design.cells cell sc.source) =
      subst₂ (IsLocallyConnected (cell_in file.cells pair.subckt)) (sym sa.node_is) (sym sc.node_is) (subst (λ x. IsLocallyConnected x near.a near.b) found.2 near.connected) in
      subst₂ Here (sym sa.flat_is) (sym sc.flat_is) (connected_at nameless design pair.at ((local_same near.path cell pair sa.source sc.source sa.is_bit sc.is_bit).1 link))

  -- the pin bit of an instance for a pin of its call
  record IsPinHere (path : Path) (cell : HCell) (pair : Pair path cell) (instance port bit : ℕ) (name : List ℕ) : Type 0 where
    hport : ℕ
    hbit : ℕ
    hpin : IsPinBit design.cells cell instance hport hbit
    same_name : hpin.the_instance.name ≡ name
    is_place : place_of hpin.below hport hbit ≡ port
    is_scalar : bit ≡ 0

  pin_here : (path : Path) (cell : HCell) (pair : Pair path cell) (instance port bit : ℕ) (pin : IsPinBit other.cells (cell_in file.cells pair.subckt) instance port bit) → IsPinHere path cell pair instance port bit pin.the_instance.name
  pin_here path cell pair instance port bit pin =
      let c = mapped (instance_in file.cells) pair.subckt.calls instance pin.the_instance pin.is_there in
      let lt = slice_get_within pair.subckt.calls instance c.0 c.1 in
      let long = pair.is_for.as_many in
      let i = element_there cell.instances instance (omega (arith, lt, long)) in
      let is : IsCallFor design.cells i.0 c.0 = pair.is_for.calls instance i.0 c.0 i.1 c.1 in
      let s = below_there design valid keeps file are i.0 c.0 is in
      let there : IsCell other.cells pin.the_instance.cell (cell_in file.cells s.0) = subst (λ n. IsCell other.cells n (cell_in file.cells s.0)) (ap (λ (x : HInst). x.cell) c.2) (map_there (cell_in file.cells) file.cells _ s.0 s.1) in
      let same : pin.below ≡ cell_in file.cells s.0 = same_element other.cells pin.the_instance.cell pin.below (cell_in file.cells s.0) pin.is_below there in
      let p = mapped scalar_port s.0.ports port pin.is_bit.the_port (subst (λ (x : HCell). slice_get x.ports port ≡ Some pin.is_bit.the_port) same pin.is_bit.is_there) in
      let within : bit < 1 = subst (λ (q : HPort). bit < width_of q.range) (sym p.2) pin.is_bit.within in
      let port_lt : port < length (port_words s.2.cell) = subst (λ l. port < length l) s.2.is_for.same_ports (slice_get_within s.0.ports port p.0 p.1) in
      let place : HasPlace s.2.cell.ports port = bit_at s.2.cell.ports port port_lt in
      record {
        hport = place.port;
        hbit = place.bit;
        hpin = record { the_instance = i.0; is_there = i.1; below = s.2.cell; is_below = s.2.is_cell; is_bit = bit_back s.2.cell place.port place.bit place.is_bit };
        same_name = sym is.same_name ∙ ap (λ (x : HInst). x.name) c.2;
        is_place = place.is_place;
        is_scalar = omega (arith, within);
      }

  abbrev Behind : FlatNode → FlatNode → Type 0
  Behind target flat = Stands flat target

  bridge_back : (z w : FlatNode) → FlatLink nameless other z w → IsJoined other z w ⊎ Bridges other Here Behind z w
  bridge_back z w (by_join {path = path} {cell = cell} {x = x} {y = y} at step) = inl (record { path = path; cell = cell; at = at; x = x; y = y; step = step; z_is = refl; w_is = refl })
  bridge_back z w (by_pin {path = path} {cell = ocell} {instance = instance} {port = port} {bit = bit} at pin) =
      let found = pair_back design valid keeps file are path ocell at in
      let cell : HCell = found.0 in
      let pair : Pair path cell = found.1 in
      let moved : IsPinBit other.cells (cell_in file.cells pair.subckt) instance port bit =
      record { the_instance = pin.the_instance; is_there = subst (λ (x : HCell). slice_get x.instances instance ≡ Some pin.the_instance) found.2 pin.is_there; below = pin.below; is_below = pin.is_below; is_bit = pin.is_bit } in
      let h : IsPinHere path cell pair instance port bit pin.the_instance.name = pin_here path cell pair instance port bit moved in
      let name : List ℕ = h.hpin.the_instance.name in
      let below_at : CellAt design (name ∷ path) h.hpin.below = at_below design path cell pair.at instance h.hpin.the_instance h.hpin.below h.hpin.is_there h.hpin.is_below in
      let below : Pair (name ∷ path) h.hpin.below = pair_of design valid keeps file are (name ∷ path) h.hpin.below below_at in
      let pin_at : pin_place design.cells cell instance h.hport h.hbit ≡ port = pin_place_is design.cells cell instance h.hport h.hbit h.hpin ∙ h.is_place in
      let z_is : At path (Pin instance (pin_place design.cells cell instance h.hport h.hbit) 0) ≡ At path (Pin instance port bit) =
      ap (λ n. At path (Pin instance n 0)) pin_at ∙ ap (λ n. At path (Pin instance port n)) (sym h.is_scalar) in
      let w_is : At (name ∷ path) (Port (place_of h.hpin.below h.hport h.hbit) 0) ≡ At (pin.the_instance.name ∷ path) (Port port bit) =
      ap (λ m. At (m ∷ path) (Port (place_of h.hpin.below h.hport h.hbit) 0)) h.same_name ∙ (ap (λ n. At (pin.the_instance.name ∷ path) (Port n 0)) h.is_place ∙ ap (λ n. At (pin.the_instance.name ∷ path) (Port port n)) (sym h.is_scalar)) in
      let link : Here (At path (Pin instance h.hport h.hbit)) (At (name ∷ path) (Port h.hport h.hbit)) = linked_by (inl (by_pin pair.at h.hpin)) in
      inr (record {
        z_partner = At path (Pin instance h.hport h.hbit);
        w_partner = At (name ∷ path) (Port h.hport h.hbit);
        of_z = subst (Stands (At path (Pin instance h.hport h.hbit))) z_is (inside pair (Pin instance h.hport h.hbit) h.hpin);
        of_w = subst (Stands (At (name ∷ path) (Port h.hport h.hbit))) w_is (inside below (Port h.hport h.hbit) h.hpin.is_bit);
        near_z = shared_near other opaths (At path (Pin instance port bit)) (record { cell = ocell; at = at; is_bit = pin; is_taken = refl });
        near_w = shared_near other opaths (At (pin.the_instance.name ∷ path) (Port port bit))
            (record { cell = pin.below; at = at_below other path ocell at instance pin.the_instance pin.below pin.is_there pin.is_below; is_bit = pin.is_bit; is_taken = refl });
        linked = link;
        linked_again = connected_back nameless design link;
      })
  bridge_back z w (by_constant {value = value} at c) = absurd (no_constant other onamed value c.the_instance.cell c.below c.is_below c.is_constant)

  -- ---- both ways
  module _ (path opath : Path) (cell ocell : HCell) (at : CellAt design path cell) (oat : CellAt design opath ocell) (port bit oport obit : ℕ) (is : IsPortBit cell port bit) (ois : IsPortBit ocell oport obit) where
    abbrev here_one : FlatNode
    here_one = At path (Port port bit)

    abbrev here_two : FlatNode
    here_two = At opath (Port oport obit)

    abbrev there_one : FlatNode
    there_one = At path (Port (place_of cell port bit) 0)

    abbrev there_two : FlatNode
    there_two = At opath (Port (place_of ocell oport obit) 0)

    one : Pair path cell
    one = pair_of design valid keeps file are path cell at

    two : Pair opath ocell
    two = pair_of design valid keeps file are opath ocell oat

    stands_one : Stands here_one there_one
    stands_one = inside one (Port port bit) is

    stands_two : Stands here_two there_two
    stands_two = inside two (Port oport obit) ois

    -- two port bits are connected exactly where the ports for them are
    pub goes_over : IsConnected nameless design (At path (Port port bit)) (At opath (Port oport obit)) ↔ IsConnected nameless (spice_design file) (At path (Port (place_of cell port bit) 0)) (At opath (Port (place_of ocell oport obit) 0))
    goes_over = (
      λ link. connection_goes_over nameless design paths There Stands (λ x. linked_itself (FlatStep nameless other) x) (λ x y z a b. linked_along a b) (λ v. constant v) near_forth bridge_forth
          here_one here_two there_one there_two link (shared_near design paths here_one (record { cell = cell; at = at; is_bit = is; is_taken = refl })) stands_one stands_two,
      λ link. connection_goes_over nameless other opaths Here Behind (λ x. linked_itself (FlatStep nameless design) x) (λ x y z a b. linked_along a b) (λ v. constant v) near_back bridge_back
          there_one there_two here_one here_two link (shared_near other opaths there_one (record { cell = cell_in file.cells one.subckt; at = one.there; is_bit = scalar_bit cell one.subckt one.is_for port bit is; is_taken = refl })) stands_one stands_two,
    )
