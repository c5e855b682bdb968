-- The ports, nets and instances of a plain module, and its cell.
use Rattle.std.proofs.Common.{◌≡◌, ℕ, zero, suc, ◌||◌, Bool, true, false, List, [], ◌∷◌, ◌++◌, Some, bytes_eq, cond, filter, find, flat_map, map, slice_get, refl, sym, ap, subst, ◌∙◌, append-nil, Contains}
use Rattle.std.specs.Prelude.{option_map}
use Rattle.std.specs.Option.{option_map_or}
use Rattle.nl_base.specs.declared.value.Dir.TheVariants.{Inout}
use Rattle.net_hier.specs.declared.cells.HPort.{HPort}
use Rattle.vlog_design.specs.Design.{attr_props, attrs_if, attrs_in_header, attrs_in_item, defparam_props, module_cell, module_instances, module_joins, module_nets, module_ports, param_props, param_value, port_attrs, port_dir, statement_instances, wire_nets}
use Rattle.vlog_design.specs.Names.{Name, has_name, port_range}
use Rattle.vlog_design.specs.Reach.{module_number}
use Rattle.vlog_values.specs.declared.declaration.PortDecl.{PortDecl}
use Rattle.vlog_values.specs.declared.expression.Attr.{Attr}
use Rattle.vlog_values.specs.declared.module.ItemV.{ItemV}
use Rattle.vlog_values.specs.declared.module.Module.{Module}
use Rattle.vlog_values.specs.declared.statement.DefSet.{DefSet}
use Rattle.vlog_written.specs.OwnNames.{AreApart, AreDistinct, instances_named, ports_named, wires_named}
use Rattle.vlog_written.specs.Written.{PlainInstance, PlainModule, PlainPort, PlainWire, plain_header, plain_items, plain_module, port_decl_of, statement_of}
use Rattle.vlog_written.proofs.Members.{distinct_apart, distinct_left, find_named, there_at, there_here, there_later, there_mapped}
use Rattle.vlog_written.proofs.Names.{range_of_port, wire_of, wires_are}
use Rattle.vlog_written.proofs.Shape.{decls_of_ports, names_of_ports, statements_are}
use Rattle.vlog_plain.specs.Parts.{instance_in_cell, net_in_cell, plain_cell, port_in_cell}
use Rattle.vlog_plain.proofs.Declared.{no_defparams}
use Rattle.vlog_plain.proofs.Lists.{differ, flat_none, same}
use Rattle.vlog_plain.proofs.Uses.{IsItemOf, a_wire, an_assign, an_instance, item_of}
use Rattle.std.proofs.lemmas.List.Elements.{Contains-append_right}

-- ---- ports

-- the declaration of a port
find_port : (ports : List PlainPort) (name : Name) → find (λ (decl : PortDecl). has_name decl.names name) (map port_decl_of ports) ≡ option_map port_decl_of (find (λ (port : PlainPort). bytes_eq name port.name) ports)
find_port [] name = refl
find_port (port ∷ ports) name = by (bytes_eq name port.name) (find_port ports name)
  where
    by : (b : Bool) → find (λ (decl : PortDecl). has_name decl.names name) (map port_decl_of ports) ≡ option_map port_decl_of (find (λ (port : PlainPort). bytes_eq name port.name) ports) →
        cond (b || false) (Some (port_decl_of port)) (find (λ (decl : PortDecl). has_name decl.names name) (map port_decl_of ports)) ≡ option_map port_decl_of (cond b (Some port) (find (λ (port : PlainPort). bytes_eq name port.name) ports))
    by true rest = refl
    by false rest = rest

other_attrs : (name other : Name) (attrs : List Attr) → bytes_eq name other ≡ false → attrs_if (has_name (other ∷ []) name) attrs ≡ []
other_attrs name other attrs e = by (bytes_eq name other) e
  where
    by : (b : Bool) → b ≡ false → attrs_if (b || false) attrs ≡ []
    by true e = absurd (cc)
    by false e = refl

own_attrs : (name other : Name) (attrs : List Attr) → bytes_eq name other ≡ true → attrs_if (has_name (other ∷ []) name) attrs ≡ attrs
own_attrs name other attrs e = by (bytes_eq name other) e
  where
    by : (b : Bool) → b ≡ true → attrs_if (b || false) attrs ≡ attrs
    by true e = refl
    by false e = absurd (cc)

abbrev attrs_of_decl : Name → PortDecl → List Attr
attrs_of_decl name decl = attrs_if (has_name decl.names name) decl.attrs

no_attrs : (ports : List PlainPort) (name : Name) → (¬ Contains (map (λ (port : PlainPort). port.name) ports) name) → flat_map (attrs_of_decl name) (map port_decl_of ports) ≡ []
no_attrs [] name h = refl
no_attrs (port ∷ ports) name h =
    ap (λ l. l ++ flat_map (attrs_of_decl name) (map port_decl_of ports)) (other_attrs name port.name port.attrs (differ name port.name (λ e. h (subst (Contains (map (λ (q : PlainPort). q.name) (port ∷ ports))) (sym e) (there_here port.name (map (λ (q : PlainPort). q.name) ports))))))
    ∙ no_attrs ports name (λ m. h (there_later port.name (map (λ (q : PlainPort). q.name) ports) name m))

decl_attrs : (ports : List PlainPort) (place : ℕ) (port : PlainPort) → AreDistinct (map (λ (q : PlainPort). q.name) ports) → slice_get ports place ≡ Some port → flat_map (attrs_of_decl port.name) (map port_decl_of ports) ≡ port.attrs
decl_attrs [] place port d e = absurd (cc)
decl_attrs (q ∷ ports) zero port d e =
    let h : q ≡ port = here q port e in
    let names : ¬ Contains (map (λ (q : PlainPort). q.name) ports) port.name = subst (λ (x : PlainPort). ¬ Contains (map (λ (q : PlainPort). q.name) ports) x.name) h d.0 in
    ap (λ l. l ++ flat_map (attrs_of_decl port.name) (map port_decl_of ports)) (own_attrs port.name q.name q.attrs (same port.name q.name (sym (ap (λ (x : PlainPort). x.name) h))))
    ∙ (ap (λ l. q.attrs ++ l) (no_attrs ports port.name names) ∙ (append-nil q.attrs ∙ ap (λ (x : PlainPort). x.attrs) h))
  where
    here : (a b : PlainPort) → Some a ≡ Some b → a ≡ b
    here a b e = cc
decl_attrs (q ∷ ports) (suc place) port d e =
    ap (λ l. l ++ flat_map (attrs_of_decl port.name) (map port_decl_of ports)) (other_attrs port.name q.name q.attrs (differ port.name q.name (λ h. d.0 (subst (Contains (map (λ (x : PlainPort). x.name) ports)) h (there_mapped (λ (x : PlainPort). x.name) ports port (there_at ports place port e))))))
    ∙ decl_attrs ports place port d.1 e

header_attrs : (ports : List PlainPort) (name : Name) → attrs_in_header name (plain_header ports) ≡ flat_map (attrs_of_decl name) (map port_decl_of ports)
header_attrs [] name = refl
header_attrs (port ∷ ports) name = refl

-- two lists that are made of one list alike
map_alike : {A B : Type 0} (f g : A → B) (xs : List A) → ((place : ℕ) (x : A) → slice_get xs place ≡ Some x → f x ≡ g x) → map f xs ≡ map g xs
map_alike f g [] h = refl
map_alike f g (x ∷ xs) h = (λ j. h 0 x refl j ∷ map_alike f g xs (λ place y e. h (suc place) y e) j)

map_map : {A B C : Type 0} (f : A → B) (g : B → C) (xs : List A) → map g (map f xs) ≡ map (λ x. g (f x)) xs
map_map f g [] = refl
map_map f g (x ∷ xs) = ap (λ l. g (f x) ∷ l) (map_map f g xs)

module _ (p : PlainModule) (apart : AreApart p) where
  abbrev others : List Name
  others = instances_named p ++ wires_named p

  distinct_ports : AreDistinct (ports_named p)
  distinct_ports = distinct_left (ports_named p) others apart.distinct

  dir_is : (place : ℕ) (port : PlainPort) → slice_get p.ports place ≡ Some port → port_dir (plain_module p) port.name ≡ port.dir
  unfolding port_dir
  dir_is place port e =
      ap (λ decls. option_map_or (λ (decl : PortDecl). decl.dir) (find (λ (decl : PortDecl). has_name decl.names port.name) decls) Inout) (decls_of_ports p)
      ∙ (ap (λ o. option_map_or (λ (decl : PortDecl). decl.dir) o Inout) (find_port p.ports port.name)
      ∙ ap (λ o. option_map_or (λ (decl : PortDecl). decl.dir) (option_map port_decl_of o) Inout) (find_named (λ (port : PlainPort). port.name) p.ports place port distinct_ports e))

  -- no item has attributes of a port
  none_in_items : (port : PlainPort) → Contains p.ports port → flat_map (attrs_in_item port.name) (plain_items p) ≡ []
  none_in_items port m = flat_none (attrs_in_item port.name) (plain_items p) (λ item k. by item (item_of p item k))
    where
      by : (item : ItemV) → IsItemOf p item → attrs_in_item port.name item ≡ []
      by item (a_wire wire k e) =
          ap (attrs_in_item port.name) e
          ∙ other_attrs port.name wire.name wire.attrs (differ port.name wire.name (λ h. distinct_apart (ports_named p) others apart.distinct port.name (there_mapped (λ (q : PlainPort). q.name) p.ports port m)
          (subst (Contains others) (sym h) (Contains-append_right (instances_named p) (wires_named p) wire.name (there_mapped (λ (w : PlainWire). w.name) p.wires wire k)))))
      by item (an_assign set k e) = ap (attrs_in_item port.name) e
      by item (an_instance instance k e) = ap (attrs_in_item port.name) e

  attrs_are : (place : ℕ) (port : PlainPort) → slice_get p.ports place ≡ Some port → port_attrs (plain_module p) port.name ≡ port.attrs
  unfolding port_attrs
  attrs_are place port e =
      ap (λ l. l ++ flat_map (attrs_in_item port.name) (plain_items p)) (header_attrs p.ports port.name ∙ decl_attrs p.ports place port distinct_ports e)
      ∙ (ap (λ l. port.attrs ++ l) (none_in_items port (there_at p.ports place port e)) ∙ append-nil port.attrs)

  abbrev port_named : Name → HPort
  port_named name = record { name = name; range = port_range (plain_module p) name; dir = port_dir (plain_module p) name; props = attr_props (port_attrs (plain_module p) name) }

  pub ports_are : module_ports (plain_module p) ≡ map port_in_cell p.ports
  unfolding module_ports
  ports_are =
      ap (map port_named) (names_of_ports p)
      ∙ (map_map (λ (port : PlainPort). port.name) port_named p.ports
      ∙ map_alike (λ (port : PlainPort). port_named port.name) port_in_cell p.ports (λ place port e j. record {
        name = port.name;
        range = range_of_port p place port distinct_ports e j;
        dir = dir_is place port e j;
        props = attr_props (attrs_are place port e j);
      }))

  -- ---- nets

  each_net : (ws : List PlainWire) → flat_map wire_nets (map wire_of ws) ≡ map net_in_cell ws
  each_net [] = refl
  each_net (wire ∷ ws) = ap (λ l. net_in_cell wire ∷ l) (each_net ws)

  pub nets_are : module_nets (plain_module p) ≡ map net_in_cell p.wires
  unfolding module_nets
  nets_are = ap (flat_map wire_nets) (wires_are p apart) ∙ each_net p.wires

-- ---- instances

module _ (modules : List Module) (p : PlainModule) where
  no_more_props : (name : Name) → defparam_props (plain_module p) name ≡ []
  no_more_props name =
      ap (λ sets. map (λ (set : DefSet). record { name = set.name; value = param_value set.value }) (filter (λ (set : DefSet). bytes_eq name set.instance) sets)) (no_defparams p)

  one_instance : (instance : PlainInstance) → statement_instances modules (plain_module p) (statement_of instance) ≡ instance_in_cell modules instance ∷ []
  one_instance instance =
      let props = attr_props instance.attrs ++ param_props instance.params in
      ap (λ more. record { name = instance.name; cell = module_number modules instance.of; props = props ++ more } ∷ []) (no_more_props instance.name)
      ∙ ap (λ all. record { name = instance.name; cell = module_number modules instance.of; props = all } ∷ []) (append-nil props)

  each_instance : (instances : List PlainInstance) → flat_map (statement_instances modules (plain_module p)) (map statement_of instances) ≡ map (instance_in_cell modules) instances
  each_instance [] = refl
  each_instance (instance ∷ instances) = (λ j. one_instance instance j ++ each_instance instances j)

  pub instances_are : module_instances modules (plain_module p) ≡ map (instance_in_cell modules) p.instances
  unfolding module_instances
  instances_are = ap (flat_map (statement_instances modules (plain_module p))) (statements_are p) ∙ each_instance p.instances

-- the cell
pub cell_is : (modules : List Module) (p : PlainModule) → AreApart p → module_cell modules (plain_module p) ≡ plain_cell modules p
unfolding module_cell
cell_is modules p apart = λ j. record {
  name = p.name;
  ports = ports_are p apart j;
  instances = instances_are modules p j;
  nets = nets_are p apart j;
  joins = module_joins modules (plain_module p);
  props = attr_props p.attrs;
}
