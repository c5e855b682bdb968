-- What a plain module declares: no name twice, each port with its direction, no parameters (4.11, 12.3.3).
use Rattle.std.proofs.Common.{◌≡◌, inl, inr, ℕ, ◌||◌, ◌&&◌, not, Bool, true, false, cond, List, [], ◌∷◌, ◌++◌, None, bytes_eq, filter, flat_map, map, refl, ap, subst, ◌∙◌, Contains}
use Rattle.std.proofs.lemmas.List.Elements.{Contains-append_left, Contains-append_right, Contains-append_cases}
use Rattle.vlog_design.specs.Design.{def_sets}
use Rattle.vlog_design.specs.Names.{Declaration, Name, clashing, declarations, declared_as, declared_in_header, declared_in_item, declared_port, defparam_statement, has_name, instance_names, port_decl, port_names, port_range}
use Rattle.vlog_design.specs.Rules.{bad_directions, clash, declared_twice, each_alone, inner_directions, is_signal, other_ranges, same_kind, same_range, unknown_instances, without_direction}
use Rattle.vlog_design.specs.declared.signals.Kind.{Kind}
use Rattle.vlog_design.specs.declared.signals.Kind.TheVariants.{InHeader, Direction, NetDeclaration, Instance}
use Rattle.vlog_values.specs.declared.declaration.NetDecl.{NetDecl}
use Rattle.vlog_values.specs.declared.declaration.PortDecl.{PortDecl}
use Rattle.vlog_values.specs.declared.module.ItemV.{ItemV}
use Rattle.vlog_values.specs.declared.statement.Assignment.{Assignment}
use Rattle.vlog_values.specs.declared.statement.DefSet.{DefSet}
use Rattle.vlog_values.specs.declared.statement.Defparams.{Defparams}
use Rattle.vlog_written.specs.OwnNames.{AreDistinct, instances_named, ports_named, wires_named}
use Rattle.vlog_written.specs.Written.{PlainInstance, PlainModule, PlainPort, PlainWire, assign_item, instance_item, plain_header, plain_items, plain_module, port_decl_of, wire_item}
use Rattle.vlog_written.proofs.Contents.{image_of, part_of}
use Rattle.vlog_written.proofs.Members.{distinct_apart, distinct_left, distinct_right, not_named, there_cases, there_mapped}
use Rattle.vlog_written.proofs.Shape.{decls_of_nets, names_of_ports, wire_decl_of}
use Rattle.vlog_plain.specs.Plain.{IsPlainModule}
use Rattle.vlog_plain.proofs.Lists.{AreFree, differ, flat_none, free_append, no_clash}
use Rattle.vlog_plain.proofs.Uses.{IsItemOf, a_wire, an_assign, an_instance, item_of, only_one}

-- declarations of two names
and_false : (b : Bool) → (b && false) ≡ false
and_false true = refl
and_false false = refl

two_names : (one other : Declaration) → (one.name ≡ other.name → ⊥) → clash one other ≡ false
two_names one other h = ap (λ b. b && (same_kind one.kind other.kind || not (is_signal one.kind && is_signal other.kind))) (differ one.name other.name h)

-- a name has a declaration of its own
declared_name : (kind : Kind) (names : List Name) (d : Declaration) → Contains (declared_as kind names) d → Contains names d.name
declared_name kind names d h =
    let r = image_of (λ (name : Name). record { kind = kind; name = name }) names d h in
    subst (Contains names) (ap (λ (x : Declaration). x.name) r.2) r.1

port_declares : (names : List Name) (d : Declaration) → Contains (flat_map declared_port names) d → Contains names d.name
port_declares names d h =
    let r = part_of declared_port names d h in
    let first : Declaration = record { kind = InHeader; name = r.0 } in
    let second : Declaration = record { kind = Direction; name = r.0 } in
    subst (Contains names) (elim (there_cases first (second ∷ []) d r.2) as (λ _. r.0 ≡ d.name) [
      | inl e ↦ ap (λ (x : Declaration). x.name) e
      | inr m ↦ ap (λ (x : Declaration). x.name) (only_one second d m)
    ]) r.1

apart_declared : (names : List Name) (name : Name) (kind : Kind) → (¬ Contains names name) → (d : Declaration) → Contains names d.name → clash d (record { kind = kind; name = name }) ≡ false
apart_declared names name kind h d m = two_names d (record { kind = kind; name = name }) (λ e. h (subst (Contains names) e m))

ports_free : (names : List Name) → AreDistinct names → AreFree clash (flat_map declared_port names)
ports_free [] d = tt
ports_free (name ∷ names) d = (first, ((λ y m. apart_declared names name Direction d.0 y (port_declares names y m)), ports_free names d.1))
  where
    here : Declaration
    here = record { kind = InHeader; name = name }

    direction : Declaration
    direction = record { kind = Direction; name = name }

    first : (y : Declaration) → Contains (direction ∷ flat_map declared_port names) y → clash y here ≡ false
    first y m = elim (there_cases direction (flat_map declared_port names) y m) as (λ _. clash y here ≡ false) [
      | inl e ↦ subst (λ z. clash z here ≡ false) e (and_false (bytes_eq name name))
      | inr k ↦ apart_declared names name InHeader d.0 y (port_declares names y k)
    ]

names_free : (kind : Kind) (names : List Name) → AreDistinct names → AreFree clash (declared_as kind names)
names_free kind [] d = tt
names_free kind (name ∷ names) d = ((λ y m. apart_declared names name kind d.0 y (declared_name kind names y m)), names_free kind names d.1)

-- what is declared, in order
header_declares : (ports : List PlainPort) → declared_in_header (plain_header ports) ≡ flat_map declared_port (map (λ (port : PlainPort). port.name) ports)
header_declares [] = refl
header_declares (port ∷ ports) = by (port ∷ ports)
  where
    by : (ports : List PlainPort) → flat_map (λ (decl : PortDecl). flat_map declared_port decl.names) (map port_decl_of ports) ≡ flat_map declared_port (map (λ (port : PlainPort). port.name) ports)
    by [] = refl
    by (port ∷ ports) = ap (λ l. declared_port port.name ++ l) (by ports)

items_declare : (wires : List PlainWire) (assigns : List Assignment) (instances : List PlainInstance) →
    flat_map declared_in_item (map wire_item wires ++ (map assign_item assigns ++ map instance_item instances))
    ≡ declared_as NetDeclaration (map (λ (wire : PlainWire). wire.name) wires) ++ declared_as Instance (map (λ (instance : PlainInstance). instance.name) instances)
items_declare (wire ∷ wires) assigns instances = ap (λ l. record { kind = NetDeclaration; name = wire.name } ∷ l) (items_declare wires assigns instances)
items_declare [] (set ∷ assigns) instances = items_declare [] assigns instances
items_declare [] [] [] = refl
items_declare [] [] (instance ∷ instances) = ap (λ l. record { kind = Instance; name = instance.name } ∷ l) (items_declare [] [] instances)

abbrev declared_wires : PlainModule → List Declaration
declared_wires p = declared_as NetDeclaration (wires_named p)

abbrev declared_instances : PlainModule → List Declaration
declared_instances p = declared_as Instance (instances_named p)

declarations_are : (p : PlainModule) → declarations (plain_module p) ≡ flat_map declared_port (ports_named p) ++ (declared_wires p ++ declared_instances p)
unfolding declarations
declarations_are p =
    ap (λ l. l ++ flat_map declared_in_item (plain_items p)) (header_declares p.ports)
    ∙ ap (λ l. flat_map declared_port (ports_named p) ++ l) (items_declare p.wires p.assigns p.instances)

apart_clash : (xs ys : List Name) → ((name : Name) → Contains xs name → ¬ Contains ys name) → (x y : Declaration) → Contains xs x.name → Contains ys y.name → clash y x ≡ false
apart_clash xs ys h x y m k = two_names y x (λ e. h x.name m (subst (Contains ys) e k))

module _ (ps : List PlainModule) (place : ℕ) (p : PlainModule) (is : IsPlainModule ps place p) where
  abbrev others : List Name
  others = instances_named p ++ wires_named p

  distinct_ports : AreDistinct (ports_named p)
  distinct_ports = distinct_left (ports_named p) others is.distinct

  distinct_others : AreDistinct others
  distinct_others = distinct_right (ports_named p) others is.distinct

  wires_and_instances : AreFree clash (declared_wires p ++ declared_instances p)
  wires_and_instances =
      free_append clash (declared_wires p) (declared_instances p)
      (names_free NetDeclaration (wires_named p) (distinct_right (instances_named p) (wires_named p) distinct_others))
      (names_free Instance (instances_named p) (distinct_left (instances_named p) (wires_named p) distinct_others))
      (λ x y m k. apart_clash (wires_named p) (instances_named p) (λ name h g. distinct_apart (instances_named p) (wires_named p) distinct_others name g h) x y
      (declared_name NetDeclaration (wires_named p) x m) (declared_name Instance (instances_named p) y k))

  behind_ports : (d : Declaration) → Contains (declared_wires p ++ declared_instances p) d → Contains others d.name
  behind_ports d h = elim (Contains-append_cases (declared_wires p) (declared_instances p) d h) as (λ _. Contains others d.name) [
    | inl m ↦ Contains-append_right (instances_named p) (wires_named p) d.name (declared_name NetDeclaration (wires_named p) d m)
    | inr m ↦ Contains-append_left (instances_named p) (wires_named p) d.name (declared_name Instance (instances_named p) d m)
  ]

  all_free : AreFree clash (flat_map declared_port (ports_named p) ++ (declared_wires p ++ declared_instances p))
  all_free =
      free_append clash (flat_map declared_port (ports_named p)) (declared_wires p ++ declared_instances p) (ports_free (ports_named p) distinct_ports) wires_and_instances
      (λ x y m k. apart_clash (ports_named p) others (λ name h g. distinct_apart (ports_named p) others is.distinct name h g) x y (port_declares (ports_named p) x m) (behind_ports y k))

  -- no name is declared twice
  pub declared_once : declared_twice (plain_module p) ≡ []
  unfolding declared_twice
  declared_once =
      ap (map (λ (d : Declaration). d.name ∷ [])) (ap (clashing clash []) (declarations_are p) ∙ no_clash clash (flat_map declared_port (ports_named p) ++ (declared_wires p ++ declared_instances p)) all_free)

  -- no item gives a direction
  no_directions : inner_directions (plain_module p) ≡ []
  no_directions = ap (flat_map (λ (decl : PortDecl). decl.names)) (flat_none port_decl (plain_items p) (λ item m. by item (item_of p item m)))
    where
      by : (item : ItemV) → IsItemOf p item → port_decl item ≡ []
      by item (a_wire wire m e) = ap port_decl e
      by item (an_assign set m e) = ap port_decl e
      by item (an_instance instance m e) = ap port_decl e

  pub directions_good : without_direction (plain_module p) ≡ []
  unfolding without_direction
  directions_good = ap each_alone (by p.ports)
    where
      by : (ports : List PlainPort) → bad_directions (plain_module p) (plain_header ports) ≡ []
      by [] = ap (filter (λ (name : Name). not false)) no_directions
      by (port ∷ ports) = no_directions

  -- no wire has the name of a port
  wire_apart : (wire : PlainWire) → Contains p.wires wire → has_name (port_names (plain_module p)) wire.name ≡ false
  wire_apart wire m =
      ap (λ names. has_name names wire.name) (names_of_ports p)
      ∙ not_named (ports_named p) wire.name (λ h. distinct_apart (ports_named p) others is.distinct wire.name h
      (Contains-append_right (instances_named p) (wires_named p) wire.name (there_mapped (λ (w : PlainWire). w.name) p.wires wire m)))

  pub ranges_good : other_ranges (plain_module p) ≡ []
  unfolding other_ranges
  ranges_good =
      ap (flat_map (λ (decl : NetDecl). each_alone (filter (λ name. has_name (port_names (plain_module p)) name && not (same_range decl.range (port_range (plain_module p) name))) decl.names))) (decls_of_nets p)
      ∙ flat_none (λ (decl : NetDecl). each_alone (filter (λ name. has_name (port_names (plain_module p)) name && not (same_range decl.range (port_range (plain_module p) name))) decl.names)) (map wire_decl_of p.wires) by
    where
      none : (wire : PlainWire) (b c : Bool) → b ≡ false → each_alone (cond (b && c) (wire.name ∷ []) []) ≡ []
      none wire true c e = absurd (cc)
      none wire false c e = refl

      by : (decl : NetDecl) → Contains (map wire_decl_of p.wires) decl → each_alone (filter (λ name. has_name (port_names (plain_module p)) name && not (same_range decl.range (port_range (plain_module p) name))) decl.names) ≡ []
      by decl m =
          let r = image_of wire_decl_of p.wires decl m in
          subst (λ (d : NetDecl). each_alone (filter (λ name. has_name (port_names (plain_module p)) name && not (same_range d.range (port_range (plain_module p) name))) d.names) ≡ []) r.2
          (none r.0 (has_name (port_names (plain_module p)) r.0.name) (not (same_range None (port_range (plain_module p) r.0.name))) (wire_apart r.0 r.1))

-- no `defparam`
pub no_defparams : (p : PlainModule) → def_sets (plain_module p) ≡ []
no_defparams p = flat_none (λ item. flat_map (λ (statement : Defparams). statement.sets) (defparam_statement item)) (plain_items p) (λ item m. by item (item_of p item m))
  where
    by : (item : ItemV) → IsItemOf p item → flat_map (λ (statement : Defparams). statement.sets) (defparam_statement item) ≡ []
    by item (a_wire wire m e) = ap (λ i. flat_map (λ (statement : Defparams). statement.sets) (defparam_statement i)) e
    by item (an_assign set m e) = ap (λ i. flat_map (λ (statement : Defparams). statement.sets) (defparam_statement i)) e
    by item (an_instance instance m e) = ap (λ i. flat_map (λ (statement : Defparams). statement.sets) (defparam_statement i)) e

pub instances_known : (p : PlainModule) → unknown_instances (plain_module p) ≡ []
unfolding unknown_instances
instances_known p = ap (λ sets. map (λ (set : DefSet). set.instance ∷ (set.name ∷ [])) (filter (λ (set : DefSet). not (has_name (instance_names (plain_module p)) set.instance)) sets)) (no_defparams p)
