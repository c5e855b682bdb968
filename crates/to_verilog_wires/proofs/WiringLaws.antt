-- The wiring of a cell: one hub for each local class that is written.
use Rattle.std.proofs.Common.{◌≡◌, ◌≢◌, ℕ, zero, suc, ◌<◌, ◌⊎◌, ◌↔◌, inl, inr, Bool, true, false, if◌then◌else◌, not, List, [], ◌∷◌, ◌++◌, Option, Some, None, option_to_list, map, length, slice_get, refl, sym, ◌∙◌, ap, subst, arith, Contains, ◌||◌, ◌&&◌, ◌==◌, nat_lt, count_by, IsPermutation}
use Rattle.std.specs.List.{list_any}
use Rattle.std.specs.Option.{option_map, option_map_or}
use Rattle.std.proofs.lemmas.Bool.{false≢true}
use Rattle.std.proofs.lemmas.Bool.Decides.{nat_tests}
use Rattle.std.proofs.lemmas.List.{length-map}
use Rattle.std.proofs.lemmas.Map.Made.{is_member-Decides}
use Rattle.std.proofs.lemmas.Option.{slice_get_within}
use Rattle.net_hier.specs.Cells.{IsBitOrConstant, IsLocallyConnected, IsPinBit, width_of}
use Rattle.net_hier.specs.Facts.{HasLastValue, HasNetValue, SameValues}
use Rattle.net_hier.specs.Valid.{Each, IsGoodCell, IsJoinOf}
use Rattle.net_hier.specs.declared.cells.HCell.{HCell}
use Rattle.net_hier.specs.declared.cells.HNet.{HNet}
use Rattle.net_hier.specs.declared.cells.HInst.{HInst}
use Rattle.net_hier.specs.declared.cells.HPort.{HPort}
use Rattle.net_hier.specs.declared.cells.HProp.{HProp}
use Rattle.net_hier.specs.declared.nodes.Node.{Node}
use Rattle.net_hier.specs.declared.nodes.Node.TheVariants.{Port, Pin, Net, Zero, One}
use Rattle.nl_base.specs.declared.value.PropValue.{PropValue}
use Rattle.net_bits.specs.Classes.{class_of, members_of}
use Rattle.net_bits.specs.Neighbours.{same_node}
use Rattle.net_bits.proofs.CallerLaws.{connected_classes, member_of_class}
use Rattle.vlog_written.proofs.Contents.{there_in_parts, part_of}
use Rattle.vlog_written.proofs.Members.{nothing_there}
use Rattle.to_verilog_classes.proofs.NodeLaws.{same_node-Decides}
use Rattle.net_stars.specs.StandIns.{itself}
use Rattle.net_stars.specs.Stars.{AreHubs, AreWires, HasHub, HaveHub, IsBit, IsNet, IsOwnHub, IsWireFor}
use Rattle.net_stars.proofs.Spokes.{one_hub}
use Rattle.net_live.specs.Live.{class_props, have_property, is_bit, is_end, is_live, props_of_node}
use Rattle.net_live.proofs.LiveLaws.{joined_node, share_live, two_pass}
use Rattle.net_live.proofs.PartnerLaws.{bit_passes}
use Rattle.net_live.proofs.ValueLaws.{live_with_value, net_value_is, no_net_bit}
use Rattle.to_verilog_props.proofs.Meanings.{attributes_keep}
use Rattle.vlog_design.specs.Design.{attr_props}
use Rattle.vlog_written.specs.Written.{PlainWire}
use Rattle.to_verilog_wires.specs.Given.{AreGiven, GivesHubs}
use Rattle.to_verilog_classes.specs.Groups.{AreGroups, GroupTable, HasMarks, around, live_class, root}
use Rattle.to_verilog_wires.specs.Hubs.{first_port, hub_node, port_hub}
use Rattle.to_verilog_wires.specs.IsWiring.{IsWiring, wire_net}
use Rattle.to_verilog_wires.specs.Naming.{wire_attrs}
use Rattle.to_verilog_classes.specs.Roots.{AreWidePorts, each_live, pin_port, pin_width, port_width, root_list, wide_among, wide_port}
use Rattle.to_verilog_wires.specs.Wiring.{hub_in}
use Rattle.to_verilog_wires.specs.declared.hubs.Hub.{Hub}
use Rattle.to_verilog_wires.specs.declared.hubs.Hub.TheVariants as hubs
use Rattle.to_verilog_wires.specs.declared.naming.Wires.{Wires}
use Rattle.to_verilog_wires.proofs.GivenLaws.{hub_node_there}
use Rattle.to_verilog_classes.proofs.Rooted.{IsFirst, IsOpen, ShareClass, around_class, around_root, class_there, from_each, in_around, in_each, listed_root, live_there, mark_there, one_root, open_listed, root_itself, root_listed, root_shares, share_back, share_on, written_there}

-- a hub is the one of its node
same_hub : (a b : Hub) → hub_node a ≡ hub_node b → a ≡ b
same_hub (hubs.Port port bit) (hubs.Port other place) e = let f : Port port bit ≡ Port other place = e in cc
same_hub (hubs.Port port bit) (hubs.Wire wire) e = absurd (let f : Port port bit ≡ Net wire = e in cc)
same_hub (hubs.Wire wire) (hubs.Port port bit) e = absurd (let f : Net wire ≡ Port port bit = e in cc)
same_hub (hubs.Wire wire) (hubs.Wire other) e = let f : Net wire ≡ Net other = e in cc

-- nodes without a property of a net give none
no_props : (nets : List HNet) (nodes : List Node) → have_property nets nodes ≡ false → class_props nets nodes ≡ []
no_props nets [] e = refl
no_props nets (node ∷ nodes) e = by (props_of_node nets node) refl e (no_props nets nodes)
  where
    by : (props : List HProp) → props_of_node nets node ≡ props → (not (length (props_of_node nets node) == 0) || have_property nets nodes) ≡ false → (have_property nets nodes ≡ false → class_props nets nodes ≡ []) → props_of_node nets node ++ class_props nets nodes ≡ []
    by [] f g rec = ap (λ l. l ++ class_props nets nodes) f ∙ rec (sym (ap (λ l. not (length l == 0) || have_property nets nodes) f) ∙ g)
    by (prop ∷ props) f g rec =
        let some : (suc (length props) == 0) ≡ false = grind (arith, nat_tests) in
        absurd (false≢true (sym g ∙ (ap (λ l. not (length l == 0) || have_property nets nodes) f ∙ ap (λ b. not b || have_property nets nodes) some)))

have_some : (nets : List HNet) (nodes : List Node) (name : List ℕ) (value : PropValue) → HasLastValue (class_props nets nodes) name value → have_property nets nodes ≡ true
have_some nets nodes name value h = by (have_property nets nodes) refl
  where
    by : (b : Bool) → have_property nets nodes ≡ b → b ≡ true
    by true e = refl
    by false e = absurd (subst (λ l. HasLastValue l name value) (no_props nets nodes e) h)

-- an element of a mapped list
pub mapped_at : {X Y : Type 0} (f : X → Y) (xs : List X) (k : ℕ) (x : X) → slice_get xs k ≡ Some x → slice_get (map f xs) k ≡ Some (f x)
mapped_at f [] k x e = absurd (let g : None ≡ Some x = e in cc)
mapped_at f (y ∷ xs) zero x e = let g : Some y ≡ Some x = e in let s : y ≡ x = cc in ap (λ z. Some (f z)) s
mapped_at f (y ∷ xs) (suc k) x e = mapped_at f xs k x e

-- the ports among nodes are named by their first bits
chosen_bit : (wide : Bool) (i p instance port bit : ℕ) → Contains (option_to_list (if wide then Some (Pin i p 0) else None)) (Pin instance port bit) → bit ≡ 0
chosen_bit true i p instance port bit (zero, l, e) = let g : Pin i p 0 ≡ Pin instance port bit = e in let s : 0 ≡ bit = cc in sym s
chosen_bit true i p instance port bit (suc k, l, e) = absurd (omega (arith, l))
chosen_bit false i p instance port bit h = absurd (nothing_there (Pin instance port bit) h)

first_bit : (cells : List HCell) (cell : HCell) (nodes : List Node) (instance port bit : ℕ) → Contains (wide_among cells cell nodes) (Pin instance port bit) → bit ≡ 0
first_bit cells cell nodes instance port bit h = let r = part_of (λ (node : Node). option_to_list (wide_port cells cell node)) nodes (Pin instance port bit) h in by r.0 r.2
  where
    by : (node : Node) → Contains (option_to_list (wide_port cells cell node)) (Pin instance port bit) → bit ≡ 0
    by (Port p b) h = absurd (nothing_there (Pin instance port bit) h)
    by (Pin i p b) h = chosen_bit (nat_lt 1 (pin_width cells cell i p)) i p instance port bit h
    by (Net n) h = absurd (nothing_there (Pin instance port bit) h)
    by Zero h = absurd (nothing_there (Pin instance port bit) h)
    by One h = absurd (nothing_there (Pin instance port bit) h)

-- a class with two port bits, pin bits or constants is written
two_live : (nets : List HNet) (nodes : List Node) → nat_lt 1 (count_by is_end nodes) ≡ true → is_live nets nodes ≡ true
two_live nets nodes two = ap (λ b. b || (nat_lt 0 (count_by is_bit nodes) && have_property nets nodes)) two

-- how many bits the port of an instance has
pin_bits : (cells : List HCell) (cell : HCell) (instance port bit : ℕ) (is : IsPinBit cells cell instance port bit) → pin_width cells cell instance port ≡ width_of is.is_bit.the_port.range
pin_bits cells cell instance port bit is =
    ap (λ o. option_map_or (λ (i : HInst). option_map_or (λ below. port_width below port) (slice_get cells i.cell) 0) o 0) is.is_there
    ∙ (ap (λ o. option_map_or (λ below. port_width below port) o 0) is.is_below ∙ ap (λ o. option_map_or (λ (p : HPort). width_of p.range) o 0) is.is_bit.is_there)

pin_within : (cells : List HCell) (cell : HCell) (instance port bit : ℕ) → IsPinBit cells cell instance port bit → bit < pin_width cells cell instance port
pin_within cells cell instance port bit is =
    let w = pin_bits cells cell instance port bit is in
    let h : bit < width_of is.is_bit.the_port.range = is.is_bit.within in
    omega (arith, w, h)

module _ (cells : List HCell) (cell : HCell) (groups : GroupTable) (are : AreGroups cell groups) (marks : HasMarks groups) (good : Each (IsJoinOf cells cell) cell.joins)
    (ports roots : List Node) (listed : IsPermutation (root_list cells cell groups ports) roots) (hub : Node → Option Hub) (wires : List PlainWire) (given : AreGiven cell groups roots hub wires) where
  -- the node that is the hub of a node
  abbrev hub_of : Node → Option Node
  hub_of x = option_map hub_node (hub (root groups x))

  mapped : (o : Option Hub) (node : Node) → option_map hub_node o ≡ Some node → (a : Hub) × (o ≡ Some a) × (hub_node a ≡ node)
  mapped None node e = absurd (let f : None ≡ Some node = e in cc)
  mapped (Some a) node e = (a, refl, let f : Some (hub_node a) ≡ Some node = e in cc)

  one_class : (a b : ℕ) (o : Option ℕ) → o ≡ Some a → o ≡ Some b → a ≡ b
  one_class a b o e f = cc

  connected : (x y : Node) → ShareClass groups.classes x y → IsLocallyConnected cell x y
  connected x y s = (connected_classes cell groups.classes are.classes x y).1 s

  -- a node with a hub that is of the class of a port bit stands for this
  port_root : (r : Node) (a : Hub) (port bit class : ℕ) → hub r ≡ Some a → class_of groups.classes r ≡ Some class → class_of groups.classes (Port port bit) ≡ Some class → root groups (Port port bit) ≡ r
  port_root r a port bit class e of_r of_port = elim (listed_root cell groups are marks cells ports roots listed r (given.only r a e)) as (λ _. root groups (Port port bit) ≡ r) [
    | inl first ↦
        let same : class ≡ first.class = one_class class first.class (class_of groups.classes r) of_r (class_there cell groups are marks r first.class first.live) in
        let live : live_class groups (Port port bit) ≡ Some first.class = mark_there cell groups are marks (Port port bit) first.class (of_port ∙ ap Some same) (live_there cell groups are marks r first.class first.live) in
        one_root cell groups are marks (Port port bit) r first.class live first.live ∙ first.is_root
    | inr other ↦
        let apart : r ≢ Port port bit = λ same. let f : Pin other.instance other.port other.bit ≡ Port port bit = sym other.is_pin ∙ same in absurd (cc) in
        let two = two_pass is_end (members_of groups.classes class) r (Port port bit) ((member_of_class cell groups.classes are.classes r class).0 of_r) ((member_of_class cell groups.classes are.classes (Port port bit) class).0 of_port) (ap is_end other.is_pin) refl apart in
        let live : live_class groups r ≡ Some class = written_there cell groups are marks r class of_r (two_live cell.nets (members_of groups.classes class) two) in
        absurd (let f : None ≡ Some class = sym other.is_open ∙ live in cc)
  ]

  own_port : (x : Node) (port bit : ℕ) → hub (root groups x) ≡ Some (hubs.Port port bit) → IsOwnHub cells cell itself (HasHub hub_of) (Port port bit)
  own_port x port bit e =
      let there = in_around cell groups are marks (root groups x) (Port port bit) (hub_node_there cell (around groups (root groups x)) port bit (given.ports (root groups x) port bit e)) in
      record {
        terminal = Port port bit;
        is_terminal = joined_node cells cell groups.classes are.classes good (Port port bit) there.0 there.2;
        stands = refl;
        is_hub = ap (λ r. option_map hub_node (hub r)) (port_root (root groups x) (hubs.Port port bit) port bit there.0 e there.1 there.2) ∙ ap (option_map hub_node) e;
      }

  own_hub : (x node : Node) → hub_of x ≡ Some node → IsNet node ⊎ IsOwnHub cells cell itself (HasHub hub_of) node
  own_hub x node e = let m = mapped (hub (root groups x)) node e in by m.0 m.1 m.2
    where
      by : (a : Hub) → hub (root groups x) ≡ Some a → hub_node a ≡ node → IsNet node ⊎ IsOwnHub cells cell itself (HasHub hub_of) node
      by (hubs.Port port bit) f g = inr (subst (IsOwnHub cells cell itself (HasHub hub_of)) g (own_port x port bit f))
      by (hubs.Wire wire) f g = inl (wire, sym g)

  -- two nodes with one hub are connected
  port_shares : (x : Node) (port bit : ℕ) → hub (root groups x) ≡ Some (hubs.Port port bit) → ShareClass groups.classes x (Port port bit)
  port_shares x port bit e =
      let there = in_around cell groups are marks (root groups x) (Port port bit) (hub_node_there cell (around groups (root groups x)) port bit (given.ports (root groups x) port bit e)) in
      share_on groups.classes x (root groups x) (Port port bit) (root_shares cell groups are marks x) (inr there)

  one_connected : (x y node : Node) → hub_of x ≡ Some node → hub_of y ≡ Some node → IsLocallyConnected cell x y
  one_connected x y node e f =
      let m = mapped (hub (root groups x)) node e in
      let n = mapped (hub (root groups y)) node f in
      by m.0 m.1 (n.1 ∙ ap Some (same_hub n.0 m.0 (n.2 ∙ sym m.2)))
    where
      by : (a : Hub) → hub (root groups x) ≡ Some a → hub (root groups y) ≡ Some a → IsLocallyConnected cell x y
      by (hubs.Port port bit) g h = connected x y (share_on groups.classes x (Port port bit) y (port_shares x port bit g) (share_back groups.classes y (Port port bit) (port_shares y port bit h)))
      by (hubs.Wire wire) g h =
          let same : root groups x ≡ root groups y = given.apart (root groups x) (root groups y) wire g h in
          connected x y (share_on groups.classes x (root groups x) y (root_shares cell groups are marks x) (subst (λ r. ShareClass groups.classes r y) (sym same) (share_back groups.classes y (root groups y) (root_shares cell groups are marks y))))

  -- a node of a class that is written has a hub
  live_hub : (x : Node) (class : ℕ) → live_class groups x ≡ Some class → (a : Hub) × (hub (root groups x) ≡ Some a)
  live_hub x class live = given.all (root groups x) (root_listed cell groups are marks cells ports roots listed x class live)

  -- a node that is no pin bit has a hub only where its class is written
  pub hub_class : (x node : Node) → pin_port x ≡ None → hub_of x ≡ Some node → (class : ℕ) × (live_class groups x ≡ Some class)
  hub_class x node no_pin e = let m = mapped (hub (root groups x)) node e in by (live_class groups x) refl (listed_root cell groups are marks cells ports roots listed (root groups x) (given.only (root groups x) m.0 m.1))
    where
      by : (o : Option ℕ) → live_class groups x ≡ o → IsFirst cell groups are marks cells ports roots listed (root groups x) ⊎ IsOpen cell groups are marks cells ports roots listed (root groups x) → (class : ℕ) × (live_class groups x ≡ Some class)
      by (Some class) f r = (class, f)
      by None f (inl first) = absurd (let g : None ≡ Some first.class = sym f ∙ (ap (live_class groups) (sym (root_itself cell groups are marks x f)) ∙ first.live) in cc)
      by None f (inr other) =
          let same : x ≡ Pin other.instance other.port other.bit = sym (root_itself cell groups are marks x f) ∙ other.is_pin in
          absurd (let g : None ≡ Some (Pin other.instance other.port 0) = sym no_pin ∙ ap pin_port same in cc)

  -- a hub that is a wire is one of the wires
  pub wire_of_hub : (x : Node) (number : ℕ) → hub_of x ≡ Some (Net number) → number < length wires
  wire_of_hub x number e = let m = mapped (hub (root groups x)) (Net number) e in by m.0 m.1 m.2
    where
      by : (a : Hub) → hub (root groups x) ≡ Some a → hub_node a ≡ Net number → number < length wires
      by (hubs.Port port bit) f g = absurd (let k : Port port bit ≡ Net number = g in cc)
      by (hubs.Wire wire) f g =
          let k : Net wire ≡ Net number = g in
          let same : wire ≡ number = cc in
          let w = given.wires_of (root groups x) wire f in
          let h : wire < length wires = slice_get_within wires wire w.wire w.is_there in
          omega (arith, h, same)

  -- two that are connected have one hub
  connected_hub : (x y : Node) → IsBitOrConstant cells cell x → IsBitOrConstant cells cell y → IsLocallyConnected cell x y → (x ≡ y) ⊎ HaveHub (HasHub hub_of) x y
  connected_hub x y tx ty link = by (same_node x y) refl
    where
      by : (b : Bool) → same_node x y ≡ b → (x ≡ y) ⊎ HaveHub (HasHub hub_of) x y
      by true e = inl ((same_node-Decides x y).0 e)
      by false e =
          let k = share_live cells cell groups.classes are.classes x y tx ty (λ same. false≢true (sym e ∙ (same_node-Decides x y).1 same)) link in
          let lx = written_there cell groups are marks x k.0 k.1 k.3 in
          let ly = written_there cell groups are marks y k.0 k.2 k.3 in
          let h = live_hub x k.0 lx in
          inr (record {
            hub = hub_node h.0;
            of_x = ap (option_map hub_node) h.1;
            of_y = ap (λ r. option_map hub_node (hub r)) (one_root cell groups are marks y x k.0 ly lx) ∙ ap (option_map hub_node) h.1;
          })

  pub hubs_are : AreHubs cells cell itself (HasHub hub_of)
  hubs_are = record {
    own = λ x node t e. own_hub x node e;
    one = λ x node other t e f. one_hub hub_of x node other e f;
    once = λ x y node tx ty e f. one_connected x y node e f;
    whole = λ x y tx ty link. connected_hub x y tx ty link;
  }

  -- what nets give a bit is the last value in the properties of the nets of its class
  bit_value : (x : Node) → IsBit cells cell x → (name : List ℕ) (value : PropValue) → HasNetValue cell x name value ↔ HasLastValue (class_props cell.nets (around groups x)) name value
  bit_value x bit name value = by (class_of groups.classes x) refl
    where
      by : (o : Option ℕ) → class_of groups.classes x ≡ o → HasNetValue cell x name value ↔ HasLastValue (class_props cell.nets (around groups x)) name value
      by None e = (
        λ h. let l = live_with_value cell groups.classes are.classes x name value (bit_passes cells cell x bit) h in absurd (let f : None ≡ Some l.0 = sym e ∙ l.1 in cc),
        λ h. absurd (subst (λ nodes. HasLastValue (class_props cell.nets nodes) name value) (ap (λ o. option_map_or (members_of groups.classes) o []) e) h),
      )
      by (Some class) e = subst (λ nodes. HasNetValue cell x name value ↔ HasLastValue (class_props cell.nets nodes) name value) (sym (around_class cell groups are marks x class e)) (net_value_is cell groups.classes are.classes x (no_net_bit x (bit_passes cells cell x bit)) class e name value)

  module _ (partner : HCell) (nets : partner.nets ≡ map wire_net wires) where
    wire_for : (x : Node) (number : ℕ) → IsBit cells cell x → hub_of x ≡ Some (Net number) → IsWireFor cell partner x number
    wire_for x number bit e = let m = mapped (hub (root groups x)) (Net number) e in by m.0 m.1 m.2
      where
        by : (a : Hub) → hub (root groups x) ≡ Some a → hub_node a ≡ Net number → IsWireFor cell partner x number
        by (hubs.Port port place) f g = absurd (let k : Port port place ≡ Net number = g in cc)
        by (hubs.Wire wire) f g =
            let k : Net wire ≡ Net number = g in
            let same : wire ≡ number = cc in
            let w = given.wires_of (root groups x) wire f in
            let keeps : SameValues (class_props cell.nets (around groups x)) (attr_props w.wire.attrs) = subst (λ l. SameValues (class_props cell.nets (around groups x)) (attr_props l))
            (sym (w.attrs ∙ ap (wire_attrs cell) (around_root cell groups are marks x))) (attributes_keep (class_props cell.nets (around groups x))) in
            record {
              net = wire_net w.wire;
              is_there = ap (λ l. slice_get l number) nets ∙ mapped_at wire_net wires number w.wire (ap (slice_get wires) (sym same) ∙ w.is_there);
              values = λ name value. (
                λ h. (keeps name value).0 ((bit_value x bit name value).0 h),
                λ h. (bit_value x bit name value).1 ((keeps name value).1 h),
              );
            }

    bare_for : (x : Node) → IsBit cells cell x → (name : List ℕ) (value : PropValue) → HasNetValue cell x name value → (number : ℕ) × (hub_of x ≡ Some (Net number))
    bare_for x bit name value h =
        let l = live_with_value cell groups.classes are.classes x name value (bit_passes cells cell x bit) h in
        let a = live_hub x l.0 (written_there cell groups are marks x l.0 l.1 l.2) in
        by a.0 a.1
      where
        some : have_property cell.nets (around groups (root groups x)) ≡ true
        some = ap (have_property cell.nets) (around_root cell groups are marks x) ∙ have_some cell.nets (around groups x) name value ((bit_value x bit name value).0 h)

        by : (a : Hub) → hub (root groups x) ≡ Some a → (number : ℕ) × (hub_of x ≡ Some (Net number))
        by (hubs.Port port place) e =
            let f : port_hub cell (around groups (root groups x)) ≡ Some (hubs.Port port place) = given.ports (root groups x) port place e in
            let g : port_hub cell (around groups (root groups x)) ≡ None = ap (λ b. if b then None else first_port cell (around groups (root groups x))) some in
            absurd (let k : None ≡ Some (hubs.Port port place) = sym g ∙ f in cc)
        by (hubs.Wire wire) e = (wire, ap (option_map hub_node) e)

    pub properties_are : AreWires cells cell partner (HasHub hub_of)
    properties_are = record { wires = λ x number bit e. wire_for x number bit e; bare = λ x bit name value h. bare_for x bit name value h }

  module _ (written : AreWidePorts cells cell groups ports) where
    port_there : (node : Node) → Contains ports node → Contains (each_live groups (wide_among cells cell)) node
    port_there node h = (is_member-Decides same_node-Decides (each_live groups (wide_among cells cell)) node).0 (sym (written node) ∙ (is_member-Decides same_node-Decides ports node).1 h)

    there_port : (node : Node) → Contains (each_live groups (wide_among cells cell)) node → list_any (same_node node) ports ≡ true
    there_port node h = written node ∙ (is_member-Decides same_node-Decides (each_live groups (wide_among cells cell)) node).1 h

    pub some_written : (instance port bit : ℕ) → IsPinBit cells cell instance port bit → list_any (same_node (Pin instance port 0)) ports ≡ true → (node : Node) × (hub_of (Pin instance port bit) ≡ Some node)
    some_written instance port bit is h = let a = by (live_class groups (Pin instance port bit)) refl in (hub_node a.0, ap (option_map hub_node) a.1)
      where
        by : (o : Option ℕ) → live_class groups (Pin instance port bit) ≡ o → (a : Hub) × (hub (root groups (Pin instance port bit)) ≡ Some a)
        by (Some class) e = live_hub (Pin instance port bit) class e
        by None e =
            let there : Contains ports (Pin instance port 0) = (is_member-Decides same_node-Decides ports (Pin instance port 0)).0 h in
            given.all (root groups (Pin instance port bit)) (subst (Contains roots) (sym (root_itself cell groups are marks (Pin instance port bit) e))
            (open_listed cell groups are marks cells ports roots listed instance port 0 bit there (pin_within cells cell instance port bit is) e))

    -- the first bit of a port of several bits is among the written ones where a bit of it is in a class that is written
    pin_written : (instance port bit class : ℕ) → nat_lt 1 (pin_width cells cell instance port) ≡ true → live_class groups (Pin instance port bit) ≡ Some class → list_any (same_node (Pin instance port 0)) ports ≡ true
    pin_written instance port bit class wide e =
        there_port (Pin instance port 0) (in_each cell groups are marks (wide_among cells cell) (Pin instance port bit) (Pin instance port 0) class e
        (there_in_parts (λ (node : Node). option_to_list (wide_port cells cell node)) (members_of groups.classes class) (Pin instance port bit) (Pin instance port 0)
        ((member_of_class cell groups.classes are.classes (Pin instance port bit) class).0 (class_there cell groups are marks (Pin instance port bit) class e))
        (subst (λ b. Contains (option_to_list (if b then Some (Pin instance port 0) else None)) (Pin instance port 0)) (sym wide) (0, omega arith, refl))))

    pub none_written : (instance port bit : ℕ) → nat_lt 1 (pin_width cells cell instance port) ≡ true → list_any (same_node (Pin instance port 0)) ports ≡ false → hub_of (Pin instance port bit) ≡ None
    none_written instance port bit wide h = by (live_class groups (Pin instance port bit)) refl (hub (root groups (Pin instance port bit))) refl
      where
        by : (o : Option ℕ) → live_class groups (Pin instance port bit) ≡ o → (a : Option Hub) → hub (root groups (Pin instance port bit)) ≡ a → hub_of (Pin instance port bit) ≡ None
        by (Some class) e a f = absurd (false≢true (sym h ∙ pin_written instance port bit class wide e))
        by None e None f = ap (option_map hub_node) f
        by None e (Some a) f =
            let itself_root : root groups (Pin instance port bit) ≡ Pin instance port bit = root_itself cell groups are marks (Pin instance port bit) e in
            elim (listed_root cell groups are marks cells ports roots listed (root groups (Pin instance port bit)) (given.only (root groups (Pin instance port bit)) a f)) as (λ _. hub_of (Pin instance port bit) ≡ None) [
              | inl first ↦ absurd (let g : None ≡ Some first.class = sym e ∙ (ap (live_class groups) (sym itself_root) ∙ first.live) in cc)
              | inr other ↦
                  let same : Pin instance port bit ≡ Pin other.instance other.port other.bit = sym itself_root ∙ other.is_pin in
                  let i : other.instance ≡ instance = cc in
                  let p : other.port ≡ port = cc in
                  let from = from_each cell groups are marks (wide_among cells cell) (Pin other.instance other.port other.first) (port_there (Pin other.instance other.port other.first) other.is_written) in
                  let z : other.first ≡ 0 = first_bit cells cell (members_of groups.classes from.class) other.instance other.port other.first from.is_there in
                  let there : Contains ports (Pin instance port 0) = subst (λ n. Contains ports (Pin instance n 0)) p (subst (λ n. Contains ports (Pin n other.port 0)) i (subst (λ n. Contains ports (Pin other.instance other.port n)) z other.is_written)) in
                  absurd (false≢true (sym h ∙ (is_member-Decides same_node-Decides ports (Pin instance port 0)).1 there))
            ]

-- the whole wiring
pub wiring_is : (cells : List HCell) (cell : HCell) (groups : GroupTable) → AreGroups cell groups → HasMarks groups → IsGoodCell cells cell →
    (ports roots : List Node) → AreWidePorts cells cell groups ports → IsPermutation (root_list cells cell groups ports) roots → (entries : List (Node × Hub)) (made : Wires) → GivesHubs cell groups roots entries made →
    IsWiring cells cell (record { groups = groups; ports = ports; hubs = entries; names = made.names }) made.decls
wiring_is cells cell groups are marks good ports roots written listed entries made gives = record {
  wires = gives.wires;
  decls_are = gives.are_made.decls;
  names_are = gives.are_made.names;
  named = gives.are_made.named;
  attrs = gives.are_made.attrs;
  hubs = hubs_are cells cell groups are marks good.joins_in_range ports roots listed (hub_in entries) gives.wires gives.are_given;
  properties = λ partner nets. properties_are cells cell groups are marks good.joins_in_range ports roots listed (hub_in entries) gives.wires gives.are_given partner nets;
  written = record {
    some = λ instance port bit is h. some_written cells cell groups are marks good.joins_in_range ports roots listed (hub_in entries) gives.wires gives.are_given written instance port bit is h;
    none = λ instance port bit is wide h.
        let w = pin_bits cells cell instance port bit is in
        let several : nat_lt 1 (pin_width cells cell instance port) ≡ true = grind (arith, nat_tests, w, wide) in
        none_written cells cell groups are marks good.joins_in_range ports roots listed (hub_in entries) gives.wires gives.are_given written instance port bit several h;
  };
  classes = record {
    groups = are;
    marks = marks;
    in_class = λ node hub no_pin e. hub_class cells cell groups are marks good.joins_in_range ports roots listed (hub_in entries) gives.wires gives.are_given node hub no_pin e;
    wire_there = λ node number e.
        let h = wire_of_hub cells cell groups are marks good.joins_in_range ports roots listed (hub_in entries) gives.wires gives.are_given node number e in
        omega (arith, h, ap length gives.are_made.names, length-map gives.wires (λ (w : PlainWire). w.name));
  };
}
