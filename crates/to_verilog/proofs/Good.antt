-- The module of a cell can be written, where the names of the design can be and its values are within the limits.
use Rattle.std.proofs.Common.{◌≡◌, ℕ, zero, suc, ◌+◌, ◌<◌, ◌≤◌, Bool, true, false, ◌==◌, cond, nat_lt, if◌then◌else◌, List, [], ◌∷◌, ◌++◌, Option, Some, None, IfSome, map, slice_get, slice_index_or, option_map, option_to_list, refl, sym, ◌∙◌, ap, subst, arith, Contains}
use Rattle.std.specs.List.{AllByRecursion, enumerate_from, range_with_len}
use Rattle.std.specs.Option.{option_and_then, option_map_or}
use Rattle.std.proofs.lemmas.Bool.Decides.{nat_tests}
use Rattle.net_bits.specs.Classes.{members_of}
use Rattle.net_bits.specs.Names.{NameSet}
use Rattle.net_hier.specs.Cells.{width_of}
use Rattle.net_hier.specs.Design.{Design, IsCell}
use Rattle.net_hier.specs.Facts.{cell_props}
use Rattle.net_hier.specs.Valid.{IsValid}
use Rattle.net_hier.specs.declared.cells.HCell.{HCell}
use Rattle.net_hier.specs.declared.cells.HInst.{HInst}
use Rattle.net_hier.specs.declared.cells.HNet.{HNet}
use Rattle.net_hier.specs.declared.cells.HPort.{HPort}
use Rattle.net_hier.specs.declared.cells.HProp.{HProp}
use Rattle.net_hier.specs.declared.nodes.Node.{Node}
use Rattle.net_hier.specs.declared.nodes.Node.TheVariants.{Port, Pin, Net, Zero, One}
use Rattle.net_live.specs.Live.{class_props, props_of_net, props_of_node}
use Rattle.net_values.specs.Sound.{AreSoundProps, IsSound, IsSoundCell, IsSoundPort, IsSoundValue}
use Rattle.vlog_design.specs.Names.{Name}
use Rattle.vlog_design_laws.proofs.Lists.{all_append, all_flat, all_map}
use Rattle.vlog_partners.specs.Partners.{IsPinOf, each_hub, no_hub, one_hub}
use Rattle.vlog_plain.specs.Plain.{IsNodeExpr, of_constant, of_port, of_wire}
use Rattle.vlog_values.specs.Values.{AreAttrs, IsAssignment, IsExpr, IsExprWithin, IsName, IsNamedConn, is_left}
use Rattle.vlog_values.specs.declared.expression.Expr.{Expr}
use Rattle.vlog_values.specs.declared.expression.Expr.TheVariants.{Lit, Ref}
use Rattle.vlog_values.specs.declared.expression.Select.TheVariants.{All}
use Rattle.vlog_values.specs.declared.module.ItemV.{ItemV}
use Rattle.vlog_values.specs.declared.statement.Assignment.{Assignment}
use Rattle.vlog_written.specs.Written.{PlainModule, PlainWire, bit_literal, select_of}
use Rattle.to_verilog_props.specs.Written.{attrs_of}
use Rattle.to_verilog_rules.specs.Rules.{is_name}
use Rattle.to_verilog_wires.specs.IsWiring.{IsWiring}
use Rattle.to_verilog_classes.specs.Roots.{of_live}
use Rattle.to_verilog_wires.specs.Wiring.{WiringTable, hub_node_of, hub_of}
use Rattle.to_verilog_wires.specs.declared.hubs.Hub.{Hub}
use Rattle.to_verilog_wires.specs.declared.hubs.Hub.TheVariants as hubs
use Rattle.to_verilog_items.specs.Assigns.{assign_of, assigned, assigns_among, assigns_of, constant_assign, feeds, is_port, member_assign, port_assign}
use Rattle.to_verilog_items.specs.Exprs.{bit_of, hub_expr, port_expr}
use Rattle.to_verilog_items.specs.Header.{plain_port}
use Rattle.to_verilog_items.specs.Instances.{below_ports, conn_of, connected, instance_of}
use Rattle.to_verilog.specs.Modules.{IsWritable, plain_of}
use Rattle.to_verilog.proofs.Listed.{mapped_at, there_at, there_below}
use Rattle.to_verilog.proofs.Partner.{pin_of}
use Rattle.to_verilog_values.specs.Kept.{HaveGoodNames, IsNamedCell, IsNamedObject}
use Rattle.to_verilog_values.specs.Writable.{IsGoodInstance, IsGoodModule, IsGoodPort, IsGoodWire}
use Rattle.to_verilog_values.proofs.Plain.{cat_is, constant_is, port_is, port_is_left, wire_is, wire_is_left}
use Rattle.to_verilog_values.proofs.Written.{attributes_are, given_are, name_is, parameters_are}

-- ---- lists
pub all_at : {A : Type 0} (P : A → Type 0) (xs : List A) → AllByRecursion P xs → (k : ℕ) (x : A) → slice_get xs k ≡ Some x → P x
all_at P [] h k x e = absurd (let f : None ≡ Some x = e in cc)
all_at P (y ∷ ys) h zero x e = let f : Some y ≡ Some x = e in let s : y ≡ x = cc in subst P s h.0
all_at P (y ∷ ys) h (suc k) x e = all_at P ys h.1 k x e

pub all_places : {A : Type 0} (P : A → Type 0) (xs : List A) → ((k : ℕ) (x : A) → slice_get xs k ≡ Some x → P x) → AllByRecursion P xs
all_places P [] h = tt
all_places P (x ∷ xs) h = (h 0 x refl, all_places P xs (λ k y e. h (suc k) y e))

all_made : {A B : Type 0} (P : B → Type 0) (f : (ℕ × A) → B) (first : ℕ) (xs : List A) → ((k : ℕ) (x : A) → slice_get xs k ≡ Some x → P (f (first + k, x))) → AllByRecursion P (map f (enumerate_from first xs))
all_made P f first [] h = tt
all_made P f first (x ∷ xs) h =
    let z : first + 0 ≡ first = omega arith in
    (subst (λ n. P (f (n, x))) z (h 0 x refl), all_made P f (first + 1) xs (λ k y e. let s : first + suc k ≡ first + 1 + k = omega arith in subst (λ n. P (f (n, y))) s (h (suc k) y e)))

all_both : {A : Type 0} (P Q : A → Type 0) (xs : List A) → AllByRecursion P xs → AllByRecursion Q xs → AllByRecursion (λ x. P x × Q x) xs
all_both P Q [] h k = tt
all_both P Q (x ∷ xs) h k = ((h.0, k.0), all_both P Q xs h.1 k.1)

all_any : {A : Type 0} (xs : List A) → AllByRecursion (λ x. Unit {0}) xs
all_any [] = tt
all_any (x ∷ xs) = (tt, all_any xs)

given_all : {A : Type 0} (P : A → Type 0) (o : Option A) → ((x : A) → o ≡ Some x → P x) → AllByRecursion P (option_to_list o)
given_all P None h = tt
given_all P (Some x) h = (h x refl, tt)

place_there : {A : Type 0} (xs : List A) (k : ℕ) (x : A) → slice_get xs k ≡ Some x → Contains xs x
place_there xs k x e = there_at xs k x e

below : (a b : ℕ) → nat_lt a b ≡ true → a < b
below a b e = grind (arith, nat_tests, e)

-- a reference that can be written
record IsRef (expr : Expr) : Type 0 where
  within : (levels : ℕ) → IsExprWithin levels expr
  left : is_left expr ≡ true

-- the two sides of an assign
record AreBoth (left right : Option Expr) (set : Assignment) : Type 0 where
  of_left : left ≡ Some set.left
  of_right : right ≡ Some set.right

both_sides : (left right : Option Expr) (set : Assignment) → assigned left right ≡ Some set → AreBoth left right set
both_sides None right set e = absurd (let f : None ≡ Some set = e in cc)
both_sides (Some l) None set e = absurd (let f : None ≡ Some set = e in cc)
both_sides (Some l) (Some r) set e =
    let f : Some (record { left = l; right = r }) ≡ Some set = e in
    let s : record { left = l; right = r } ≡ set = cc in
    record { of_left = ap (λ (a : Assignment). Some a.left) s; of_right = ap (λ (a : Assignment). Some a.right) s }

-- the properties of nets among nodes
node_props : (P : HProp → Type 0) (nets : List HNet) → AllByRecursion (λ (net : HNet). AllByRecursion P net.props) nets → (node : Node) → AllByRecursion P (props_of_node nets node)
node_props P nets all (Port port bit) = tt
node_props P nets all (Pin instance port bit) = tt
node_props P nets all (Net net) = by (slice_get nets net) refl
  where
    by : (o : Option HNet) → slice_get nets net ≡ o → AllByRecursion P (props_of_net o)
    by None e = tt
    by (Some n) e = all_at (λ (net : HNet). AllByRecursion P net.props) nets all net n e
node_props P nets all Zero = tt
node_props P nets all One = tt

of_nets : (P : HProp → Type 0) (nets : List HNet) → AllByRecursion (λ (net : HNet). AllByRecursion P net.props) nets → (nodes : List Node) → AllByRecursion P (class_props nets nodes)
of_nets P nets all nodes = all_flat (λ (node : Node). Unit {0}) P (props_of_node nets) (λ node h. node_props P nets all node) nodes (all_any nodes)

module _ (design : Design) (params : NameSet) (number : ℕ) (cell : HCell) (valid : IsValid design) (is_cell : IsCell design.cells number cell) (writable : IsWritable params cell)
    (named : (number : ℕ) (cell : HCell) → IsCell design.cells number cell → IsNamedCell params cell) (design_names : HaveGoodNames design.props) (sound : IsSound design)
    (wiring : WiringTable) (decls : List ItemV) (w : IsWiring design.cells cell wiring decls) where
  abbrev p : PlainModule
  p = plain_of design params number cell wiring w.wires

  own : IsNamedCell params cell
  own = named number cell is_cell

  own_sound : IsSoundCell cell
  own_sound = all_at IsSoundCell design.cells sound.cells number cell is_cell

  module_attrs : AreAttrs (attrs_of (cell_props design number cell))
  module_attrs = by (number == design.top)
    where
      by : (b : Bool) → AreAttrs (attrs_of (cond b (cell.props ++ design.props) cell.props))
      by true = attributes_are (cell.props ++ design.props) (all_append (λ (prop : HProp). is_name prop.name ≡ true) cell.props design.props own.itself.props_are design_names)
          (all_append (λ (prop : HProp). IsSoundValue prop.value) cell.props design.props own_sound.props sound.props)
      by false = attributes_are cell.props own.itself.props_are own_sound.props

  ports_good : AllByRecursion IsGoodPort (map plain_port cell.ports)
  ports_good =
      all_map (λ (port : HPort). IsNamedObject port.name port.props × IsSoundPort port) IsGoodPort plain_port
      (λ port h. record { attrs = attributes_are port.props h.0.props_are h.1.props; range = h.1.range; name = name_is port.name h.0.name_is }) cell.ports
      (all_both (λ (port : HPort). IsNamedObject port.name port.props) IsSoundPort cell.ports own.ports own_sound.ports)

  wires_good : AllByRecursion IsGoodWire w.wires
  wires_good = all_places IsGoodWire w.wires (λ place wire e.
      let there = place_there w.wires place wire e in
      let nodes = w.attrs wire there in
      record {
        attrs = subst AreAttrs (sym nodes.1) (attributes_are (class_props cell.nets nodes.0) (of_nets (λ (prop : HProp). is_name prop.name ≡ true) cell.nets own.nets nodes.0) (of_nets (λ (prop : HProp). IsSoundValue prop.value) cell.nets own_sound.nets nodes.0));
        name = name_is wire.name (w.named.can_be_written wire there);
      })

  names_good : AllByRecursion IsName wiring.names
  names_good = subst (AllByRecursion IsName) (sym w.names_are) (all_map IsGoodWire IsName (λ (wire : PlainWire). wire.name) (λ wire h. h.name) w.wires wires_good)

  -- ---- expressions
  bit_ref : (port : HPort) → IsGoodPort (plain_port port) → (bit : ℕ) (expr : Expr) → bit_of port bit ≡ Some expr → IsRef expr
  bit_ref port good bit expr e = by (nat_lt bit (width_of port.range)) refl e
    where
      by : (b : Bool) → nat_lt bit (width_of port.range) ≡ b → (if b then Some (Ref (select_of port.range bit) port.name) else None) ≡ Some expr → IsRef expr
      by true f g =
          let k : Some (Ref (select_of port.range bit) port.name) ≡ Some expr = g in
          let s : Ref (select_of port.range bit) port.name ≡ expr = cc in
          subst IsRef s (record { within = λ levels. port_is levels (plain_port port) bit good.name good.range (below bit (width_of port.range) f); left = port_is_left (plain_port port) bit })
      by false f g = absurd (let k : None ≡ Some expr = g in cc)

  port_good : (place : ℕ) (port : HPort) → slice_get cell.ports place ≡ Some port → IsGoodPort (plain_port port)
  port_good place port e = all_at IsGoodPort (map plain_port cell.ports) ports_good place (plain_port port) (mapped_at plain_port cell.ports place port e)

  port_ref : (port bit : ℕ) (expr : Expr) → port_expr cell.ports port bit ≡ Some expr → IsRef expr
  port_ref port bit expr e = by (slice_get cell.ports port) refl e
    where
      by : (o : Option HPort) → slice_get cell.ports port ≡ o → option_and_then (λ q. bit_of q bit) o ≡ Some expr → IsRef expr
      by None f g = absurd (let k : None ≡ Some expr = g in cc)
      by (Some q) f g = bit_ref q (port_good port q f) bit expr g

  hub_ref : (hub : Hub) (expr : Expr) → hub_expr cell.ports wiring.names hub ≡ Some expr → IsRef expr
  hub_ref (hubs.Port port bit) expr e = port_ref port bit expr e
  hub_ref (hubs.Wire wire) expr e = by (slice_get wiring.names wire) refl e
    where
      by : (o : Option Name) → slice_get wiring.names wire ≡ o → option_map (λ name. Ref All name) o ≡ Some expr → IsRef expr
      by None f g = absurd (let k : None ≡ Some expr = g in cc)
      by (Some name) f g =
          let k : Some (Ref All name) ≡ Some expr = g in
          let s : Ref All name ≡ expr = cc in
          subst IsRef s (record { within = λ levels. wire_is levels (record { attrs = []; name = name }) (all_at IsName wiring.names names_good wire name f); left = wire_is_left (record { attrs = []; name = name }) })

  node_expr : (levels : ℕ) (node : Node) (expr : Expr) → IsNodeExpr p node expr → IsExprWithin levels expr
  node_expr levels node expr (of_port place port bit is within e f) = let good = all_at IsGoodPort p.ports ports_good place port is in subst (IsExprWithin levels) (sym f) (port_is levels port bit good.name good.range within)
  node_expr levels node expr (of_wire place wire is e f) = subst (IsExprWithin levels) (sym f) (wire_is levels wire (all_at IsGoodWire w.wires wires_good place wire is).name)
  node_expr levels node expr (of_constant one e f) = subst (IsExprWithin levels) (sym f) (constant_is levels one)

  -- ---- assigns
  two_refs : (left right : Option Expr) (set : Assignment) → ((expr : Expr) → left ≡ Some expr → IsRef expr) → ((expr : Expr) → right ≡ Some expr → IsRef expr) → assigned left right ≡ Some set → IsAssignment set
  two_refs left right set of_left of_right e =
      let b = both_sides left right set e in
      let l = of_left set.left b.of_left in
      record { left = l.within 64; assignable = l.left; right = (of_right set.right b.of_right).within 64 }

  port_assign_good : (hub : Hub) (port bit : ℕ) (set : Assignment) → port_assign cell.ports wiring.names hub port bit ≡ Some set → IsAssignment set
  port_assign_good hub port bit set e = by (is_port hub port bit) (feeds cell.ports port hub) e
    where
      by : (b c : Bool) → (if b then None else if c then assigned (hub_expr cell.ports wiring.names hub) (port_expr cell.ports port bit) else assigned (port_expr cell.ports port bit) (hub_expr cell.ports wiring.names hub)) ≡ Some set → IsAssignment set
      by true c f = absurd (let k : None ≡ Some set = f in cc)
      by false true f = two_refs (hub_expr cell.ports wiring.names hub) (port_expr cell.ports port bit) set (hub_ref hub) (port_ref port bit) f
      by false false f = two_refs (port_expr cell.ports port bit) (hub_expr cell.ports wiring.names hub) set (port_ref port bit) (hub_ref hub) f

  constant_assign_good : (hub : Hub) (one : Bool) (set : Assignment) → constant_assign cell.ports wiring.names hub one ≡ Some set → IsAssignment set
  constant_assign_good hub one set e =
      let b = both_sides (hub_expr cell.ports wiring.names hub) (Some (Lit (bit_literal one))) set e in
      let l = hub_ref hub set.left b.of_left in
      let f : Some (Lit (bit_literal one)) ≡ Some set.right = b.of_right in
      let s : Lit (bit_literal one) ≡ set.right = cc in
      record { left = l.within 64; assignable = l.left; right = subst (IsExprWithin 64) s (constant_is 64 one) }

  member_good : (hub : Hub) (x : Node) (set : Assignment) → member_assign cell.ports wiring.names hub x ≡ Some set → IsAssignment set
  member_good hub (Port port bit) set e = port_assign_good hub port bit set e
  member_good hub (Pin instance port bit) set e = absurd (let f : None ≡ Some set = e in cc)
  member_good hub (Net net) set e = absurd (let f : None ≡ Some set = e in cc)
  member_good hub Zero set e = constant_assign_good hub false set e
  member_good hub One set e = constant_assign_good hub true set e

  assign_good : (x : Node) (set : Assignment) → assign_of cell.ports wiring x ≡ Some set → IsAssignment set
  assign_good x set e = by (hub_of wiring x) e
    where
      by : (o : Option Hub) → option_and_then (λ hub. member_assign cell.ports wiring.names hub x) o ≡ Some set → IsAssignment set
      by None f = absurd (let k : None ≡ Some set = f in cc)
      by (Some hub) f = member_good hub x set f

  class_good : (class : ℕ) → AllByRecursion IsAssignment (of_live wiring.groups (assigns_among cell.ports wiring) class)
  class_good class = by (slice_index_or wiring.groups.live class false)
    where
      by : (b : Bool) → AllByRecursion IsAssignment (if b then assigns_among cell.ports wiring (members_of wiring.groups.classes class) else [])
      by true = all_flat (λ (x : Node). Unit {0}) IsAssignment (λ x. option_to_list (assign_of cell.ports wiring x)) (λ x h. given_all IsAssignment (assign_of cell.ports wiring x) (assign_good x)) (members_of wiring.groups.classes class) (all_any (members_of wiring.groups.classes class))
      by false = tt

  assigns_good : AllByRecursion IsAssignment (assigns_of cell.ports wiring)
  assigns_good = all_flat (λ (class : ℕ). Unit {0}) IsAssignment (of_live wiring.groups (assigns_among cell.ports wiring)) (λ class h. class_good class) (range_with_len 0 wiring.groups.classes.count) (all_any (range_with_len 0 wiring.groups.classes.count))

  -- ---- instances
  pin_good : (place port width : ℕ) (value : Option Expr) → 1 ≤ width → IsPinOf p (hub_node_of wiring) place port width value → IfSome value IsExpr
  pin_good place port width value wide (no_hub h e) = subst (λ v. IfSome v IsExpr) (sym e) tt
  pin_good place port width value wide (one_hub hub expr h node one e) = subst (λ v. IfSome v IsExpr) (sym e) (node_expr 64 hub expr node)
  pin_good place port width value wide (each_hub exprs h long e) =
      subst (λ v. IfSome v IsExpr) (sym e) (cat_is exprs (omega (arith, wide, long)) (all_places (IsExprWithin 63) exprs (λ k expr f. let g = h k expr f in node_expr 63 g.0 expr g.2)))

  instance_good : (place : ℕ) (instance : HInst) → slice_get cell.instances place ≡ Some instance → IsGoodInstance (instance_of design.cells cell.ports wiring params (place, instance))
  instance_good place instance e =
      let is_below = there_below design.cells instance.cell ((valid.good_cells number cell is_cell).instances_in_range place instance e) in
      let names = all_at (λ (i : HInst). IsNamedObject i.name i.props) cell.instances own.instances place instance e in
      let values = all_at (λ (i : HInst). AreSoundProps i.props) cell.instances own_sound.instances place instance e in
      let ports : below_ports design.cells instance ≡ is_below.0.ports = ap (λ o. option_map_or (λ (b : HCell). b.ports) o []) is_below.1 in
      record {
        attrs = given_are params instance.props names.props_are values;
        of_module = subst IsName (sym (ap (λ o. option_map_or (λ (b : HCell). b.name) o []) is_below.1)) (name_is is_below.0.name (named instance.cell is_below.0 is_below.1).itself.name_is);
        params = parameters_are params instance.props names.props_are values;
        name = name_is instance.name names.name_is;
        conns = all_made IsNamedConn (conn_of cell.ports wiring place) 0 (below_ports design.cells instance) (λ k port f.
            let z : 0 + k ≡ k = omega arith in
            let g : slice_get is_below.0.ports k ≡ Some port = sym (ap (λ l. slice_get l k) ports) ∙ f in
            subst (λ n. IsNamedConn (conn_of cell.ports wiring place (n, port))) (sym z) (record {
              port = name_is port.name (all_at (λ (q : HPort). IsNamedObject q.name q.props) is_below.0.ports (named instance.cell is_below.0 is_below.1).ports k port g).name_is;
              value = pin_good place k (width_of port.range) (connected cell.ports wiring place k (width_of port.range)) ((valid.good_cells instance.cell is_below.0 is_below.1).widths k port g).0
                  (pin_of design params number cell valid is_cell writable wiring decls w place instance is_below.0 e is_below.1 k port g);
            }));
      }

  pub module_good : IsGoodModule p
  module_good = record {
    attrs = module_attrs;
    name = name_is cell.name own.itself.name_is;
    ports = ports_good;
    wires = wires_good;
    assigns = assigns_good;
    instances = all_made IsGoodInstance (instance_of design.cells cell.ports wiring params) 0 cell.instances (λ k instance e.
        let z : 0 + k ≡ k = omega arith in
        subst (λ n. IsGoodInstance (instance_of design.cells cell.ports wiring params (n, instance))) (sym z) (instance_good k instance e));
  }
