-- The module of a cell is one that is written for it.
use Rattle.std.proofs.Common.{◌≡◌, ℕ, zero, suc, ◌+◌, ◌<◌, ◌≤◌, ◌⊎◌, ◌↔◌, inl, inr, Bool, true, false, ◌==◌, if◌then◌else◌, List, [], ◌++◌, Option, Some, None, map, slice_get, slice_index_or, refl, sym, ◌∙◌, ap, subst, arith, Contains, option_to_list, option_map}
use Rattle.std.specs.List.{range_with_len}
use Rattle.std.specs.Option.{option_and_then, option_map_or}
use Rattle.std.proofs.lemmas.Bool.Decides.{nat_tests}
use Rattle.std.proofs.lemmas.List.FromFn.{get_or-range_with_len, length-range_with_len}
use Rattle.std.proofs.lemmas.List.Elements.{Contains-append_cases, Contains-append_left, Contains-append_right}
use Rattle.net_bits.specs.Classes.{class_of, members_of}
use Rattle.net_bits.specs.Names.{NameSet}
use Rattle.net_bits.proofs.CallerLaws.{member_of_class}
use Rattle.vlog_written.proofs.Contents.{image_of, part_of, there_in_parts}
use Rattle.vlog_written.proofs.Members.{nothing_there}
use Rattle.net_hier.specs.Cells.{IsBitOrConstant, IsPinBit, width_of}
use Rattle.net_hier.specs.Design.{Design, IsCell}
use Rattle.net_hier.specs.Facts.{HasLastValue, HasNetValue, SameValues, cell_props}
use Rattle.net_hier.specs.SameDesign.{signature_of}
use Rattle.net_hier.specs.Valid.{IsGoodCell, IsNode, IsValid}
use Rattle.net_hier.specs.declared.cells.HCell.{HCell}
use Rattle.net_hier.specs.declared.cells.HInst.{HInst}
use Rattle.net_hier.specs.declared.cells.HNet.{HNet}
use Rattle.net_hier.specs.declared.cells.HPort.{HPort}
use Rattle.net_hier.specs.declared.nodes.Node.{Node}
use Rattle.net_hier.specs.declared.nodes.Node.TheVariants.{Port, Pin, Net, Zero, One}
use Rattle.net_live.specs.Last.{last_of}
use Rattle.net_live.proofs.LiveLaws.{joined_node}
use Rattle.net_stars.specs.Stars.{IsBit}
use Rattle.to_verilog_props.specs.Written.{given_params}
use Rattle.to_verilog_props.proofs.Meanings.{attributes_keep, given_keep, given_once}
use Rattle.vlog_design.specs.Design.{attr_props}
use Rattle.vlog_design.specs.Names.{Name}
use Rattle.vlog_partners.specs.Partners.{AreSides, HasAssignOf, HasWire, IsHubAssign, IsInstanceFor, IsModuleFor, IsPinOf, IsWritten, each_hub, signature_of_plain, no_hub, one_hub}
use Rattle.vlog_partners.proofs.Lists.{distinct_both, distinct_names, none_shared, own_names}
use Rattle.vlog_plain.specs.Plain.{IsNodeExpr}
use Rattle.vlog_values.specs.declared.expression.Expr.{Expr}
use Rattle.vlog_values.specs.declared.expression.Expr.TheVariants.{Cat}
use Rattle.vlog_values.specs.declared.module.ItemV.{ItemV}
use Rattle.vlog_values.specs.declared.module.Module.{Module}
use Rattle.vlog_values.specs.declared.statement.Assignment.{Assignment}
use Rattle.vlog_values.specs.declared.statement.NamedConn.{NamedConn}
use Rattle.vlog_values.specs.declared.declaration.ParamSet.{ParamSet}
use Rattle.vlog_written.specs.Hubs.{IsOuter}
use Rattle.vlog_written.specs.OwnNames.{AreDistinct, instances_named, ports_named, wires_named}
use Rattle.vlog_written.specs.Written.{PlainInstance, PlainModule, PlainPort, PlainWire}
use Rattle.to_verilog_classes.specs.Groups.{GroupTable, if_live, live_class}
use Rattle.to_verilog_wires.specs.Hubs.{hub_node}
use Rattle.to_verilog_wires.specs.IsWiring.{IsWiring, wire_net}
use Rattle.to_verilog_classes.specs.Roots.{of_live, pin_port}
use Rattle.to_verilog_wires.specs.Wiring.{WiringTable, hub_node_of, hub_of, is_written}
use Rattle.to_verilog_wires.specs.declared.hubs.Hub.{Hub}
use Rattle.to_verilog_items.specs.Assigns.{assign_of, assigns_among, member_assign}
use Rattle.to_verilog_items.specs.Exprs.{hub_expr}
use Rattle.to_verilog_items.specs.Header.{plain_port}
use Rattle.to_verilog_items.specs.Instances.{below_ports, conn_of, connected, instance_of, pin_expr, pin_exprs}
use Rattle.to_verilog.specs.Modules.{IsModuleOf, IsWritable, plain_of}
use Rattle.to_verilog.proofs.Listed.{all_given, from_mapped, given_at, made_at, made_count, made_names, mapped_item, one_item, same_names, there_at, there_below}
use Rattle.to_verilog.proofs.Sides.{HasExpr, hub_found, outer_sides}

-- a node of a class that is written
class_of_live : (groups : GroupTable) (o : Option ℕ) (class : ℕ) → option_and_then (if_live groups) o ≡ Some class → (o ≡ Some class) × (slice_index_or groups.live class false ≡ true)
class_of_live groups None class e = absurd (let f : None ≡ Some class = e in cc)
class_of_live groups (Some k) class e = by (slice_index_or groups.live k false) refl e
  where
    by : (b : Bool) → slice_index_or groups.live k false ≡ b → (if b then Some k else None) ≡ Some class → (Some k ≡ Some class) × (slice_index_or groups.live class false ≡ true)
    by true f e = let g : Some k ≡ Some class = e in let s : k ≡ class = cc in (g, ap (λ n. slice_index_or groups.live n false) (sym s) ∙ f)
    by false f e = absurd (let g : None ≡ Some class = e in cc)

found_hub : (o : Option Hub) (node : Node) → option_map hub_node o ≡ Some node → (a : Hub) × (o ≡ Some a) × (hub_node a ≡ node)
found_hub None node e = absurd (let f : None ≡ Some node = e in cc)
found_hub (Some a) node e = (a, refl, let f : Some (hub_node a) ≡ Some node = e in cc)

only_item : {X : Type 0} (o : Option X) (x : X) → Contains (option_to_list o) x → o ≡ Some x
only_item None x h = absurd (nothing_there x h)
only_item (Some y) x (zero, l, e) = let s : y ≡ x = e in ap Some s
only_item (Some y) x (suc k, l, e) = absurd (omega (arith, l))

an_item : {X : Type 0} (o : Option X) (x : X) → o ≡ Some x → Contains (option_to_list o) x
an_item o x e = subst (λ v. Contains (option_to_list v) x) (sym e) (0, omega arith, refl)

module _ (design : Design) (params : NameSet) (number : ℕ) (cell : HCell) (valid : IsValid design) (is_cell : IsCell design.cells number cell) (writable : IsWritable params cell)
    (wiring : WiringTable) (decls : List ItemV) (w : IsWiring design.cells cell wiring decls) where
  abbrev p : PlainModule
  p = plain_of design params number cell wiring w.wires

  good : IsGoodCell design.cells cell
  good = valid.good_cells number cell is_cell

  -- ---- names and properties
  port_names : ports_named p ≡ map (λ (port : HPort). port.name) cell.ports
  port_names = same_names plain_port (λ (port : PlainPort). port.name) (λ (port : HPort). port.name) (λ port. refl) cell.ports

  instance_names : instances_named p ≡ map (λ (instance : HInst). instance.name) cell.instances
  instance_names = made_names (instance_of design.cells cell.ports wiring params) (λ (instance : PlainInstance). instance.name) (λ (instance : HInst). instance.name) (λ place instance. refl) 0 cell.instances

  new_wire : (name : Name) → Contains (map (λ (port : HPort). port.name) cell.ports ++ map (λ (instance : HInst). instance.name) cell.instances) name → ¬ Contains (wires_named p) name
  new_wire name own there = let wire = image_of (λ (v : PlainWire). v.name) w.wires name there in
      w.named.new wire.0 wire.1 (subst (Contains (map (λ (port : HPort). port.name) cell.ports ++ map (λ (instance : HInst). instance.name) cell.instances)) (sym wire.2) own)

  are_distinct : AreDistinct (ports_named p ++ (instances_named p ++ wires_named p))
  are_distinct =
      let ports : List Name = map (λ (port : HPort). port.name) cell.ports in
      let instances : List Name = map (λ (instance : HInst). instance.name) cell.instances in
      subst (λ l. AreDistinct (l ++ (instances_named p ++ wires_named p))) (sym port_names) (subst (λ l. AreDistinct (ports ++ (l ++ wires_named p))) (sym instance_names)
      (distinct_both ports (instances ++ wires_named p) (distinct_names (λ (port : HPort). port.name) cell.ports good.port_names)
      (distinct_both instances (wires_named p) (distinct_names (λ (instance : HInst). instance.name) cell.instances good.instance_names) w.named.apart (λ name there. new_wire name (Contains-append_right ports instances name there)))
      (λ name there other. elim (Contains-append_cases instances (wires_named p) name other) as (λ _. ⊥) [
        | inl h ↦ none_shared ports instances writable.apart name there h
        | inr h ↦ new_wire name (Contains-append_left ports instances name there) h
      ])))

  port_values : (place : ℕ) (port : HPort) (written : PlainPort) → slice_get cell.ports place ≡ Some port → slice_get p.ports place ≡ Some written → SameValues port.props (attr_props written.attrs)
  port_values place port written e f = subst (λ (q : PlainPort). SameValues port.props (attr_props q.attrs)) (sym (mapped_item plain_port cell.ports place port written e f)) (attributes_keep port.props)

  -- ---- assigns
  outer_node : (x : Node) → IsNode design.cells cell x → (a : Hub) (set : Assignment) → member_assign cell.ports wiring.names a x ≡ Some set → IsOuter cell x
  outer_node (Port port bit) is a set e = is
  outer_node (Pin instance port bit) is a set e = absurd (let f : None ≡ Some set = e in cc)
  outer_node (Net net) is a set e = absurd (let f : None ≡ Some set = e in cc)
  outer_node Zero is a set e = is
  outer_node One is a set e = is

  outer_terminal : (x : Node) → IsOuter cell x → IsBitOrConstant design.cells cell x
  outer_terminal (Port port bit) is = is
  outer_terminal (Pin instance port bit) is = absurd is
  outer_terminal (Net net) is = absurd is
  outer_terminal Zero is = is
  outer_terminal One is = is

  no_pin : (x : Node) → IsOuter cell x → pin_port x ≡ None
  no_pin (Port port bit) is = refl
  no_pin (Pin instance port bit) is = absurd is
  no_pin (Net net) is = absurd is
  no_pin Zero is = refl
  no_pin One is = refl

  assign_is : (x : Node) → IsNode design.cells cell x → (set : Assignment) → assign_of cell.ports wiring x ≡ Some set → IsHubAssign design.cells cell (hub_node_of wiring) p set
  assign_is x is set e = by (hub_of wiring x) refl
    where
      made : (a : Hub) → hub_of wiring x ≡ Some a → member_assign cell.ports wiring.names a x ≡ Some set
      made a f = sym (ap (option_and_then (λ hub. member_assign cell.ports wiring.names hub x)) f) ∙ e

      by : (o : Option Hub) → hub_of wiring x ≡ o → IsHubAssign design.cells cell (hub_node_of wiring) p set
      by None f = absurd (let g : None ≡ Some set = sym (ap (option_and_then (λ hub. member_assign cell.ports wiring.names hub x)) f) ∙ e in cc)
      by (Some a) f =
          let outer = outer_node x is a set (made a f) in
          elim (outer_sides design params number cell wiring decls w x outer a f) as (λ _. IsHubAssign design.cells cell (hub_node_of wiring) p set) [
            | inl self ↦ absurd (let g : None ≡ Some set = sym self.none ∙ made a f in cc)
            | inr sides ↦ record {
              terminal = x;
              hub = hub_node a;
              is_terminal = outer_terminal x outer;
              is_hub = ap (option_map hub_node) f;
              sides = subst (λ s. AreSides p s x (hub_node a)) (one_item (member_assign cell.ports wiring.names a x) sides.set set sides.is_found (made a f)) sides.sides;
            }
          ]

  of_class : (part : List Node → List Assignment) (class : ℕ) (set : Assignment) → Contains (of_live wiring.groups part class) set → Contains (part (members_of wiring.groups.classes class)) set
  of_class part class set h = by (slice_index_or wiring.groups.live class false) h
    where
      by : (b : Bool) → Contains (if b then part (members_of wiring.groups.classes class) else []) set → Contains (part (members_of wiring.groups.classes class)) set
      by true h = h
      by false h = absurd (nothing_there set h)

  assigns_are : (set : Assignment) → Contains p.assigns set → IsHubAssign design.cells cell (hub_node_of wiring) p set
  assigns_are set h =
      let class = part_of (of_live wiring.groups (assigns_among cell.ports wiring)) (range_with_len 0 wiring.groups.classes.count) set h in
      let node = part_of (λ x. option_to_list (assign_of cell.ports wiring x)) (members_of wiring.groups.classes class.0) set (of_class (assigns_among cell.ports wiring) class.0 set class.2) in
      assign_is node.0 (joined_node design.cells cell wiring.groups.classes w.classes.groups.classes good.joins_in_range node.0 class.0 ((member_of_class cell wiring.groups.classes w.classes.groups.classes node.0 class.0).1 node.1))
      set (only_item (assign_of cell.ports wiring node.0) set node.2)

  in_range : (class : ℕ) → class < wiring.groups.classes.count → Contains (range_with_len 0 wiring.groups.classes.count) class
  in_range class h =
      let z : 0 + class ≡ class = omega arith in
      (class, omega (arith, h, length-range_with_len 0 wiring.groups.classes.count), get_or-range_with_len 0 wiring.groups.classes.count class class h ∙ z)

  assign_there : (x : Node) (class : ℕ) → live_class wiring.groups x ≡ Some class → (set : Assignment) → assign_of cell.ports wiring x ≡ Some set → Contains p.assigns set
  assign_there x class live set e =
      let of_x = class_of_live wiring.groups (class_of wiring.groups.classes x) class live in
      there_in_parts (of_live wiring.groups (assigns_among cell.ports wiring)) (range_with_len 0 wiring.groups.classes.count) class set
      (in_range class (w.classes.marks.below x class of_x.0))
      (subst (λ b. Contains (if b then assigns_among cell.ports wiring (members_of wiring.groups.classes class) else []) set) (sym of_x.1)
      (there_in_parts (λ y. option_to_list (assign_of cell.ports wiring y)) (members_of wiring.groups.classes class) x set
      ((member_of_class cell wiring.groups.classes w.classes.groups.classes x class).0 of_x.0) (an_item (assign_of cell.ports wiring x) set e)))

  assigned_are : (x hub : Node) → IsOuter cell x → hub_node_of wiring x ≡ Some hub → (x ≡ hub) ⊎ HasAssignOf p x hub
  assigned_are x hub outer e =
      let a = found_hub (hub_of wiring x) hub e in
      let live = w.classes.in_class x hub (no_pin x outer) e in
      elim (outer_sides design params number cell wiring decls w x outer a.0 a.1) as (λ _. (x ≡ hub) ⊎ HasAssignOf p x hub) [
        | inl self ↦ inl (self.same ∙ a.2)
        | inr sides ↦ inr (record {
          set = sides.set;
          is_there = assign_there x live.0 live.1 sides.set (ap (option_and_then (λ h. member_assign cell.ports wiring.names h x)) a.1 ∙ sides.is_found);
          sides = subst (AreSides p sides.set x) a.2 sides.sides;
        })
      ]

  -- ---- instances
  pin_is : (place : ℕ) (instance : HInst) (below : HCell) → slice_get cell.instances place ≡ Some instance → IsCell design.cells instance.cell below →
      (port : ℕ) (the_port : HPort) → slice_get below.ports port ≡ Some the_port → (bit : ℕ) → bit < width_of the_port.range → IsPinBit design.cells cell place port bit
  pin_is place instance below e is port the_port f bit h = record {
    the_instance = instance;
    is_there = e;
    below = below;
    is_below = is;
    is_bit = record { the_port = the_port; is_there = f; within = h };
  }

  -- the expression of a pin bit that has a hub
  pin_found : (place port bit : ℕ) → IsPinBit design.cells cell place port bit → (hub : Hub) → hub_of wiring (Pin place port bit) ≡ Some hub → HasExpr p (hub_node hub) (pin_expr cell.ports wiring (Pin place port bit))
  pin_found place port bit is hub e =
      let found = hub_found design params number cell wiring decls w (Pin place port bit) is hub e in
      record { expr = found.expr; is_found = ap (option_and_then (hub_expr cell.ports wiring.names)) e ∙ found.is_found; of_node = found.of_node }

  module _ (place : ℕ) (instance : HInst) (below : HCell) (is_there : slice_get cell.instances place ≡ Some instance) (is_below : IsCell design.cells instance.cell below) (port : ℕ) (the_port : HPort)
      (is_port : slice_get below.ports port ≡ Some the_port) where
    abbrev pub width : ℕ
    width = width_of the_port.range

    a_bit : (bit : ℕ) → bit < width → IsPinBit design.cells cell place port bit
    a_bit bit h = pin_is place instance below is_there is_below port the_port is_port bit h

    one_or_more : 1 ≤ width
    one_or_more = ((valid.good_cells instance.cell below is_below).widths port the_port is_port).0

    all_pins : is_written wiring (Pin place port 0) ≡ true → (bit : ℕ) → bit < width → (expr : Expr) × (pin_expr cell.ports wiring (Pin place port bit) ≡ Some expr)
    all_pins e bit h =
        let node = w.written.some place port bit (a_bit bit h) e in
        let hub = found_hub (hub_of wiring (Pin place port bit)) node.0 node.1 in
        let found = pin_found place port bit (a_bit bit h) hub.0 hub.1 in
        (found.expr, found.is_found)

    of_pin : (bit : ℕ) (expr : Expr) → bit < width → pin_expr cell.ports wiring (Pin place port bit) ≡ Some expr → (node : Node) × (hub_node_of wiring (Pin place port bit) ≡ Some node) × IsNodeExpr p node expr
    of_pin bit expr h e = by (hub_of wiring (Pin place port bit)) refl
      where
        by : (o : Option Hub) → hub_of wiring (Pin place port bit) ≡ o → (node : Node) × (hub_node_of wiring (Pin place port bit) ≡ Some node) × IsNodeExpr p node expr
        by None f = absurd (let g : None ≡ Some expr = sym (ap (option_and_then (hub_expr cell.ports wiring.names)) f) ∙ e in cc)
        by (Some hub) f =
            let found = pin_found place port bit (a_bit bit h) hub f in
            (hub_node hub, ap (option_map hub_node) f, subst (IsNodeExpr p (hub_node hub)) (one_item (pin_expr cell.ports wiring (Pin place port bit)) found.expr expr found.is_found e) found.of_node)

    abbrev pub value : Option Expr
    value = connected cell.ports wiring place port width

    -- a port of one bit
    one_bit : width ≡ 1 → (o : Option Hub) → hub_of wiring (Pin place port 0) ≡ o → value ≡ pin_expr cell.ports wiring (Pin place port 0) → IsPinOf p (hub_node_of wiring) place port width value
    one_bit one None f e =
        no_hub (λ bit h. let z : 0 ≡ bit = omega (arith, one, h) in subst (λ b. hub_node_of wiring (Pin place port b) ≡ None) z (ap (option_map hub_node) f))
        (e ∙ ap (option_and_then (hub_expr cell.ports wiring.names)) f)
    one_bit one (Some hub) f e =
        let found = pin_found place port 0 (a_bit 0 (omega (arith, one))) hub f in
        one_hub (hub_node hub) found.expr (ap (option_map hub_node) f) found.of_node one (e ∙ found.is_found)

    pub pin_of : IsPinOf p (hub_node_of wiring) place port width value
    unfolding a_bit pin_is
    pin_of = by (width == 1) refl (is_written wiring (Pin place port 0)) refl
      where
        chosen : (b c : Bool) → Option Expr
        chosen b c = if b then pin_expr cell.ports wiring (Pin place port 0) else if c then Some (Cat (pin_exprs cell.ports wiring place port (range_with_len 0 width))) else None

        by : (b : Bool) → (width == 1) ≡ b → (c : Bool) → is_written wiring (Pin place port 0) ≡ c → IsPinOf p (hub_node_of wiring) place port width value
        by true e c f =
            let one : width ≡ 1 = grind (arith, nat_tests, e) in
            one_bit one (hub_of wiring (Pin place port 0)) refl (ap (λ b. chosen b (is_written wiring (Pin place port 0))) e)
        by false e false f =
            let several : 1 < width = grind (arith, nat_tests, e, one_or_more) in
            no_hub (λ bit h. w.written.none place port bit (a_bit bit h) several f) (ap (λ b. chosen b (is_written wiring (Pin place port 0))) e ∙ ap (chosen false) f)
        by false e true f =
            let all : (k : ℕ) → 0 ≤ k → k < 0 + width → (expr : Expr) × (pin_expr cell.ports wiring (Pin place port k) ≡ Some expr) = λ k low high. all_pins f k (omega (arith, high)) in
            each_hub (pin_exprs cell.ports wiring place port (range_with_len 0 width))
            (λ k expr g.
            let r = given_at (λ bit. pin_expr cell.ports wiring (Pin place port bit)) width 0 all k expr g in
            let z : 0 + k ≡ k = omega arith in
            of_pin k expr r.1 (subst (λ m. pin_expr cell.ports wiring (Pin place port m) ≡ Some expr) z r.0))
            (all_given (λ bit. pin_expr cell.ports wiring (Pin place port bit)) width 0 all)
            (ap (λ b. chosen b (is_written wiring (Pin place port 0))) e ∙ ap (chosen false) f)

  -- an instance, as it is written
  made_instance : (place : ℕ) (instance : HInst) → slice_get cell.instances place ≡ Some instance → IsInstanceFor design.cells (hub_node_of wiring) p place instance (instance_of design.cells cell.ports wiring params (place, instance))
  made_instance place instance is_there =
      let below = there_below design.cells instance.cell (good.instances_in_range place instance is_there) in
      let ports : below_ports design.cells instance ≡ below.0.ports = ap (λ o. option_map_or (λ (b : HCell). b.ports) o []) below.1 in
      record {
        same_name = refl;
        below = below.0;
        is_below = below.1;
        of_below = sym (ap (λ o. option_map_or (λ (b : HCell). b.name) o []) below.1);
        same_props = given_keep params instance.props (writable.no_flags instance (there_at cell.instances place instance is_there));
        params_once = distinct_names (λ (set : ParamSet). set.name) (given_params params (last_of instance.props)) (own_names (λ (set : ParamSet). set.name) (given_params params (last_of instance.props)) (given_once params instance.props));
        each_port = made_names (conn_of cell.ports wiring place) (λ (conn : NamedConn). conn.port) (λ (port : HPort). port.name) (λ k port. refl) 0 (below_ports design.cells instance) ∙ ap (map (λ (port : HPort). port.name)) ports;
        pins = λ port the_port conn e f.
            let made : conn ≡ conn_of cell.ports wiring place (port, the_port) = made_at (conn_of cell.ports wiring place) (below_ports design.cells instance) port the_port conn (ap (λ l. slice_get l port) ports ∙ e) f in
            subst (λ (c : NamedConn). IsPinOf p (hub_node_of wiring) place port (width_of the_port.range) c.value) (sym made) (pin_of place instance below.0 is_there below.1 port the_port e);
      }

  -- ---- wires
  module _ (partner : HCell) (nets : partner.nets ≡ map wire_net w.wires) where
    wire_of : (x : Node) (net : ℕ) → IsBit design.cells cell x → hub_node_of wiring x ≡ Some (Net net) → HasWire cell p x net
    wire_of x net bit e =
        let of_net = (w.properties partner nets).wires x net bit e in
        let wire = from_mapped wire_net w.wires net of_net.net (sym (ap (λ l. slice_get l net) nets) ∙ of_net.is_there) in
        record {
          wire = wire.0;
          is_there = wire.1;
          values = λ name value. subst (λ (n : HNet). HasNetValue cell x name value ↔ HasLastValue n.props name value) wire.2 (of_net.values name value);
        }

  abbrev partner_of_wires : HCell
  partner_of_wires = record { name = []; ports = []; instances = []; nets = map wire_net w.wires; joins = []; props = [] }

  pub is_for : IsModuleFor design number cell p
  is_for = record {
    same_name = refl;
    same_ports = sym (same_names plain_port signature_of_plain signature_of (λ port. refl) cell.ports);
    same_port_props = port_values;
    same_props = attributes_keep (cell_props design number cell);
    distinct = are_distinct;
    hubs = hub_node_of wiring;
    are_hubs = w.hubs;
    assigns = assigns_are;
    assigned = assigned_are;
    as_many = made_count (instance_of design.cells cell.ports wiring params) 0 cell.instances;
    instances = λ place instance written e f. subst (IsInstanceFor design.cells (hub_node_of wiring) p place instance) (sym (made_at (instance_of design.cells cell.ports wiring params) cell.instances place instance written e f)) (made_instance place instance e);
    wires = λ x net bit e. wire_of partner_of_wires refl x net bit e;
    bare = λ x bit name value h. (w.properties partner_of_wires refl).bare x bit name value h;
  }

-- the module that is made for a cell is written for it
pub written_for : (design : Design) (params : NameSet) (number : ℕ) (made : Module) → IsValid design → ((cell : HCell) → IsCell design.cells number cell → IsWritable params cell) → IsModuleOf design params number made → IsWritten design number made
written_for design params number made valid writable m = record {
  cell = m.cell;
  is_cell = m.is_cell;
  p = plain_of design params number m.cell m.wiring m.is_wiring.wires;
  is_plain = m.is_plain;
  is_for = is_for design params number m.cell valid m.is_cell (writable m.cell m.is_cell) m.wiring m.decls m.is_wiring;
}
