-- The instances and connections of a plain module are good (6.1, 12.1, 12.2, 12.3).
use Rattle.std.proofs.Common.{◌≡◌, ◌⊎◌, inl, inr, ℕ, ◌+◌, ◌||◌, ◌&&◌, not, Bool, true, false, if◌then◌else◌, List, [], ◌∷◌, ◌++◌, Option, None, Some, bytes_eq, eq-eqb, flat_map, length, map, nat_eq, nat_lt, slice_get, refl, sym, ap, subst, ◌∙◌, append-nil, arith, Contains}
use Rattle.std.specs.Prelude.{is_none}
use Rattle.std.specs.Option.{option_map_or}
use Rattle.std.proofs.lemmas.Bool.Decides.{nat_tests}
use Rattle.std.proofs.lemmas.List.Elements.{Contains-append_cases}
use Rattle.net_hier.specs.Cells.{width_of}
use Rattle.vlog_design.specs.Design.{Connection, Pairing, connection_named, connections, connections_in_order, item_pairings, pairing_of_assign, pairing_of_connection, pairings, pairings_from, instance_count, port_number}
use Rattle.vlog_design.specs.Exprs.{has_loose, width}
use Rattle.vlog_design.specs.Names.{Name, Signal, clashing, has_name, port_names, port_range, signals}
use Rattle.vlog_design.specs.Reach.{module_named}
use Rattle.vlog_design.specs.Rules.{conn_count, conn_names, each_statement, extra_connections, first_instance, in_statement, params_twice, params_twice_in, ports_named, ports_twice, ports_twice_in, too_many_connections, unequal_widths, unknown_module_in, unknown_modules, unknown_ports, unknown_ports_in, unsized}
use Rattle.vlog_values.specs.declared.expression.Expr.{Expr}
use Rattle.vlog_values.specs.declared.expression.Expr.TheVariants.{Cat}
use Rattle.vlog_values.specs.declared.module.ItemV.{ItemV}
use Rattle.vlog_values.specs.declared.module.Module.{Module}
use Rattle.vlog_values.specs.declared.statement.Assignment.{Assignment}
use Rattle.vlog_values.specs.declared.statement.Instances.{Instances}
use Rattle.vlog_values.specs.declared.statement.NamedConn.{NamedConn}
use Rattle.vlog_written.specs.OwnNames.{AreDistinct, instances_named, wires_named}
use Rattle.vlog_written.specs.OwnNames.{ports_named as plain_ports_named}
use Rattle.vlog_written.specs.Written.{PlainInstance, PlainModule, PlainPort, plain_conns, plain_items, plain_module, plain_signals, statement_of}
use Rattle.vlog_written.proofs.Contents.{image_of, part_of}
use Rattle.vlog_written.proofs.Members.{any_there, distinct_left, nothing_there, there_at, there_here, there_later, there_mapped}
use Rattle.vlog_written.proofs.Names.{range_of_port}
use Rattle.vlog_written.proofs.Shape.{names_of_ports, statements_are}
use Rattle.vlog_plain.specs.Plain.{IsPinValue, IsPlainConn, IsPlainFile, IsPlainInstance, IsPlainModule, each_bit, one_bit, open_pin, plain_modules}
use Rattle.vlog_plain.proofs.Lists.{filter_none, flat_none, none_twice, same}
use Rattle.vlog_plain.proofs.Named.{table_is}
use Rattle.vlog_plain.proofs.Places.{found}
use Rattle.vlog_plain.proofs.Uses.{IsItemOf, a_wire, an_assign, an_instance, are_apart, item_of, none_some, only_one, some_same}
use Rattle.vlog_plain.proofs.Widths.{bit_sized, bit_width, cat_sized, cat_width}

-- ---- which pairings there are

pairing_item : (modules : List Module) (names : List Signal) (number : ℕ) (items : List ItemV) (pairing : Pairing) → Contains (pairings_from modules names number items) pairing →
    (item : ItemV) × (n : ℕ) × Contains items item × Contains (item_pairings modules names n item) pairing
pairing_item modules names number [] pairing h = absurd (nothing_there pairing h)
pairing_item modules names number (item ∷ items) pairing h =
    let more = pairings_from modules names (number + instance_count item) items in
    let rest : Contains more pairing → (other : ItemV) × (n : ℕ) × Contains items other × Contains (item_pairings modules names n other) pairing = pairing_item modules names (number + instance_count item) items pairing in
    elim (Contains-append_cases (item_pairings modules names number item) more pairing h) as (λ _. (other : ItemV) × (n : ℕ) × Contains (item ∷ items) other × Contains (item_pairings modules names n other) pairing) [
      | inl m ↦ (item, number, there_here item items, m)
      | inr m ↦ let r = rest m in (r.0, r.1, there_later item items r.0 r.2, r.3)
    ]

wire_pairings : (modules : List Module) (names : List Signal) (n : ℕ) (p : PlainModule) (pairing : Pairing) (item : ItemV) → IsItemOf p item → Contains (item_pairings modules names n item) pairing →
    ((set : Assignment) × Contains p.assigns set × (pairing_of_assign names set.left set.right ≡ pairing)) ⊎
    ((instance : PlainInstance) × Contains p.instances instance × Contains (option_map_or (λ (below : Module). map (pairing_of_connection names n instance.name) (connections below (plain_conns instance.conns))) (module_named modules instance.of) []) pairing)
unfolding item_pairings
wire_pairings modules names n p pairing item (a_wire wire m e) h = absurd (nothing_there pairing (subst (λ i. Contains (item_pairings modules names n i) pairing) e h))
wire_pairings modules names n p pairing item (an_assign set m e) h =
    inl (set, m, only_one (pairing_of_assign names set.left set.right) pairing (subst (λ i. Contains (item_pairings modules names n i) pairing) e h))
wire_pairings modules names n p pairing item (an_instance instance m e) h =
    let made = option_map_or (λ (below : Module). map (pairing_of_connection names n instance.name) (connections below (plain_conns instance.conns))) (module_named modules instance.of) [] in
    inr (instance, m, subst (λ l. Contains l pairing) (append-nil made) (subst (λ i. Contains (item_pairings modules names n i) pairing) e h))

-- a connection that is made
record IsMade (below : Module) (conns : List NamedConn) (connection : Connection) : Type 0 where
  conn : NamedConn
  is_there : Contains conns conn
  value : Expr
  is_value : conn.value ≡ Some value
  is_made : connection ≡ record { number = port_number below conn.port; port = conn.port; range = port_range below conn.port; value = value }

made_of : (below : Module) (conns : List NamedConn) (connection : Connection) → Contains (connections below (plain_conns conns)) connection → IsMade below conns connection
unfolding connections
made_of below [] connection h = absurd (none (port_names below) h)
  where
    none : (names : List Name) → Contains (connections_in_order below 0 names []) connection → ⊥
    none [] h = nothing_there connection h
    none (name ∷ names) h = nothing_there connection h
made_of below (first ∷ others) connection h =
    let r = part_of (λ (conn : NamedConn). connection_named below conn.port conn.value) (first ∷ others) connection h in
    by r.0 r.1 r.0.value refl r.2
  where
    when : (conn : NamedConn) → Contains (first ∷ others) conn → (value : Expr) → conn.value ≡ Some value → (b : Bool) →
        Contains (if b then record { number = port_number below conn.port; port = conn.port; range = port_range below conn.port; value = value } ∷ [] else []) connection → IsMade below (first ∷ others) connection
    when conn m value e true k = record { conn = conn; is_there = m; value = value; is_value = e; is_made = sym (only_one (record { number = port_number below conn.port; port = conn.port; range = port_range below conn.port; value = value }) connection k) }
    when conn m value e false k = absurd (nothing_there connection k)

    by : (conn : NamedConn) → Contains (first ∷ others) conn → (o : Option Expr) → conn.value ≡ o → Contains (connection_named below conn.port o) connection → IsMade below (first ∷ others) connection
    by conn m None e k = absurd (nothing_there connection k)
    by conn m (Some value) e k = when conn m value e (has_name (port_names below) conn.port) k

-- ---- two sides of one width

-- two sides are as wide, and no unsized literal stands in them
record IsEven (pairing : Pairing) : Type 0 where
  same_width : pairing.left_width ≡ pairing.right_width
  sized : pairing.is_loose ≡ false

-- the value of a pin is as wide as its port
record FitsWidth (p : PlainModule) (wide : ℕ) (value : Expr) : Type 0 where
  as_wide : wide ≡ width (plain_signals p) value
  is_sized : has_loose value ≡ false

conn_fits : (ps : List PlainModule) (place : ℕ) (p : PlainModule) → IsPlainModule ps place p → (wide : ℕ) (o : Option Expr) (value : Expr) → IsPinValue p wide o → o ≡ Some value → FitsWidth p wide value
conn_fits ps place p is wide o value (open_pin e) v = absurd (none_some value (sym e ∙ v))
conn_fits ps place p is wide o value (one_bit expr bit w e) v =
    let h : expr ≡ value = some_same expr value (sym e ∙ v) in
    record { as_wide = w ∙ (sym (bit_width p (are_apart ps place p is) expr bit) ∙ ap (width (plain_signals p)) h); is_sized = sym (ap has_loose h) ∙ bit_sized p expr bit }
conn_fits ps place p is wide o value (each_bit exprs are w e) v =
    let h : Cat exprs ≡ value = some_same (Cat exprs) value (sym e ∙ v) in
    record { as_wide = w ∙ (sym (cat_width p (are_apart ps place p is) exprs are) ∙ ap (width (plain_signals p)) h); is_sized = sym (ap has_loose h) ∙ cat_sized p exprs are }

module _ (ps : List PlainModule) (top : ℕ) (name : Name) (file : IsPlainFile ps top name) (place : ℕ) (p : PlainModule) (here : slice_get ps place ≡ Some p) where
  abbrev modules : List Module
  modules = plain_modules ps

  abbrev names : List Signal
  names = signals (plain_module p)

  is : IsPlainModule ps place p
  is = file.modules place p here

  -- the module of an instance
  pub below_there : (instance : PlainInstance) → (one : IsPlainInstance ps place p instance) → module_named modules instance.of ≡ Some (plain_module one.below)
  below_there instance one = ap (module_named modules) (sym one.is_named) ∙ found ps one.below_place one.below file.distinct one.is_below

  below_ports : (q : PlainModule) (n : ℕ) → slice_get ps n ≡ Some q → AreDistinct (plain_ports_named q)
  below_ports q n e = distinct_left (plain_ports_named q) (instances_named q ++ wires_named q) (file.modules n q e).distinct

  width_below : (q : PlainModule) (n : ℕ) → slice_get ps n ≡ Some q → (conn : NamedConn) (c : IsPlainConn p q conn) → width_of (port_range (plain_module q) conn.port) ≡ width_of c.port.range
  width_below q n e conn c = ap width_of (ap (port_range (plain_module q)) c.is_named ∙ range_of_port q c.place c.port (below_ports q n e) c.is_port)

  even_assign : (set : Assignment) → Contains p.assigns set → IsEven (pairing_of_assign names set.left set.right)
  even_assign set m =
      let both = is.assigns set m in
      record {
        same_width = ap (λ table. width table set.left) (table_is ps place p is) ∙ (bit_width p (are_apart ps place p is) set.left both.0 ∙ (sym (bit_width p (are_apart ps place p is) set.right both.1) ∙ ap (λ table. width table set.right) (sym (table_is ps place p is))));
        sized = by (has_loose set.left) (has_loose set.right) (bit_sized p set.left both.0) (bit_sized p set.right both.1);
      }
    where
      by : (a b : Bool) → a ≡ false → b ≡ false → (a || b) ≡ false
      by a b e f = ap (λ c. c || b) e ∙ f

  even_connection : (n : ℕ) (instance : PlainInstance) → Contains p.instances instance → (pairing : Pairing) →
      Contains (option_map_or (λ (below : Module). map (pairing_of_connection names n instance.name) (connections below (plain_conns instance.conns))) (module_named modules instance.of) []) pairing → IsEven pairing
  even_connection n instance m pairing h =
      let one : IsPlainInstance ps place p instance = is.instances instance m in
      let q : Module = plain_module one.below in
      let k : Contains (map (pairing_of_connection names n instance.name) (connections q (plain_conns instance.conns))) pairing = subst (λ o. Contains (option_map_or (λ (below : Module). map (pairing_of_connection names n instance.name) (connections below (plain_conns instance.conns))) o []) pairing) (below_there instance one) h in
      let r = image_of (pairing_of_connection names n instance.name) (connections q (plain_conns instance.conns)) pairing k in
      let made : IsMade q instance.conns r.0 = made_of q instance.conns r.0 r.1 in
      let c : IsPlainConn p one.below made.conn = one.conns made.conn made.is_there in
      let fits : FitsWidth p (width_of c.port.range) made.value = conn_fits ps place p is (width_of c.port.range) made.conn.value made.value c.is_value made.is_value in
      subst IsEven r.2 (record {
        same_width =
            ap (λ (x : Connection). width_of x.range) made.is_made
            ∙ (width_below one.below one.below_place one.is_below made.conn c
            ∙ (fits.as_wide ∙ (ap (λ table. width table made.value) (sym (table_is ps place p is)) ∙ ap (λ (x : Connection). width names x.value) (sym made.is_made))));
        sized = ap (λ (x : Connection). has_loose x.value) made.is_made ∙ fits.is_sized;
      })

  all_even : (pairing : Pairing) → Contains (pairings modules (plain_module p)) pairing → IsEven pairing
  unfolding pairings
  all_even pairing h =
      let r = pairing_item modules names 0 (plain_items p) pairing h in
      elim (wire_pairings modules names r.1 p pairing r.0 (item_of p r.0 r.2) r.3) as (λ _. IsEven pairing) [
        | inl a ↦ subst IsEven a.2 (even_assign a.0 a.1)
        | inr i ↦ even_connection r.1 i.0 i.1 pairing i.2
      ]

  pub widths_equal : unequal_widths modules (plain_module p) ≡ []
  unfolding unequal_widths
  widths_equal = ap (map (λ (pairing : Pairing). pairing.names)) (filter_none (λ (pairing : Pairing). not (nat_eq pairing.left_width pairing.right_width) && not pairing.is_loose) (pairings modules (plain_module p)) by)
    where
      by : (pairing : Pairing) → Contains (pairings modules (plain_module p)) pairing → (not (nat_eq pairing.left_width pairing.right_width) && not pairing.is_loose) ≡ false
      by pairing h = let e : IsEven pairing = all_even pairing h in ap (λ b. not b && not pairing.is_loose) (eq-eqb pairing.left_width pairing.right_width e.same_width)

  pub all_sized : unsized modules (plain_module p) ≡ []
  unfolding unsized
  all_sized = ap (map (λ (pairing : Pairing). pairing.names)) (filter_none (λ (pairing : Pairing). pairing.is_loose) (pairings modules (plain_module p)) (λ pairing h. let e : IsEven pairing = all_even pairing h in e.sized))

  -- ---- statements

  -- an object of statements of which no statement has one
  none_of : (objects : Instances → List (List Name)) → ((instance : PlainInstance) → Contains p.instances instance → objects (statement_of instance) ≡ []) → each_statement objects (plain_module p) ≡ []
  none_of objects h =
      ap (flat_map objects) (statements_are p)
      ∙ flat_none objects (map statement_of p.instances) (λ statement m. let r = image_of statement_of p.instances statement m in ap objects (sym r.2) ∙ h r.0 r.1)

  pub modules_known : unknown_modules modules (plain_module p) ≡ []
  unfolding unknown_modules
  modules_known = none_of (unknown_module_in modules) (λ instance m.
      ap (λ o. if is_none o then (first_instance (statement_of instance) ++ (statement_of instance).module ∷ []) ∷ [] else []) (below_there instance (is.instances instance m)))

  ports_are : (instance : PlainInstance) → (one : IsPlainInstance ps place p instance) → ports_named modules instance.of ≡ plain_ports_named one.below
  unfolding ports_named
  ports_are instance one = ap (λ o. option_map_or port_names o []) (below_there instance one) ∙ names_of_ports one.below

  conn_port : (conns : List NamedConn) (port : Name) → Contains (conn_names (plain_conns conns)) port → (conn : NamedConn) × Contains conns conn × (conn.port ≡ port)
  conn_port [] port h = absurd (nothing_there port h)
  conn_port (conn ∷ conns) port h = image_of (λ (c : NamedConn). c.port) (conn ∷ conns) port h

  conn_names_are : (conns : List NamedConn) → conn_names (plain_conns conns) ≡ map (λ (conn : NamedConn). conn.port) conns
  conn_names_are [] = refl
  conn_names_are (conn ∷ conns) = refl

  pub ports_known : unknown_ports modules (plain_module p) ≡ []
  unfolding unknown_ports
  ports_known = none_of (in_statement (unknown_ports_in modules)) by
    where
      by : (instance : PlainInstance) → Contains p.instances instance → in_statement (unknown_ports_in modules) (statement_of instance) ≡ []
      by instance m =
          let one : IsPlainInstance ps place p instance = is.instances instance m in
          let each : (port : Name) → Contains (conn_names (plain_conns instance.conns)) port → not (has_name (ports_named modules instance.of) port) ≡ false = λ port h.
          let r = conn_port instance.conns port h in
          let c : IsPlainConn p one.below r.0 = one.conns r.0 r.1 in
          ap (λ ports. not (has_name ports port)) (ports_are instance one)
          ∙ ap not (any_there (bytes_eq port) (plain_ports_named one.below) c.port.name (there_mapped (λ (q : PlainPort). q.name) one.below.ports c.port (there_at one.below.ports c.place c.port c.is_port)) (same port c.port.name (sym r.2 ∙ c.is_named))) in
          ap (λ l. map (λ (port : Name). instance.name ∷ (port ∷ [])) l ++ []) (filter_none (λ port. not (has_name (ports_named modules instance.of) port)) (conn_names (plain_conns instance.conns)) each)

  pub ports_once : ports_twice (plain_module p) ≡ []
  unfolding ports_twice
  ports_once = none_of (in_statement ports_twice_in) (λ instance m.
      ap (λ l. map (λ (port : Name). instance.name ∷ (port ∷ [])) l ++ []) (ap (clashing bytes_eq []) (conn_names_are instance.conns) ∙ none_twice (map (λ (conn : NamedConn). conn.port) instance.conns) (is.instances instance m).ports_once))

  not_below_zero : (n : ℕ) → nat_lt n 0 ≡ false
  not_below_zero n = grind (arith, nat_tests)

  no_count : (conns : List NamedConn) → conn_count (plain_conns conns) ≡ 0
  no_count [] = refl
  no_count (conn ∷ conns) = refl

  none_extra : (ports : List Name) (instance : Name) (conns : List NamedConn) → (if nat_lt (length ports) (conn_count (plain_conns conns)) then (instance ∷ []) ∷ [] else []) ≡ []
  none_extra ports instance conns = ap (λ b. if b then (instance ∷ []) ∷ [] else []) (ap (nat_lt (length ports)) (no_count conns) ∙ not_below_zero (length ports))

  pub connections_few : too_many_connections modules (plain_module p) ≡ []
  unfolding too_many_connections
  connections_few = none_of (in_statement (extra_connections modules)) (λ instance m. ap (λ l. l ++ []) (none_extra (ports_named modules instance.of) instance.name instance.conns))

  pub params_once : params_twice (plain_module p) ≡ []
  unfolding params_twice
  params_once = none_of params_twice_in (λ instance m.
      ap (map (λ (param : Name). first_instance (statement_of instance) ++ param ∷ [])) (none_twice (map (λ set. set.name) instance.params) (is.instances instance m).params_once))
