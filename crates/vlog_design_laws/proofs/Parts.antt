-- The parts of a module that is a value, as its design looks at them.
use Rattle.std.proofs.Common.{Bool, true, false, List, [], ◌∷◌, ◌++◌, map, filter, flat_map, Option, Some, None, IfSome}
use Rattle.std.specs.Prelude.{not, bytes_eq}
use Rattle.std.specs.Option.{option_and_then}
use Rattle.std.specs.List.{AllByRecursion}
use Rattle.vlog_design.specs.Design.{attrs_if, attrs_in_header, attrs_in_item, def_sets, port_attrs}
use Rattle.vlog_design.specs.Names.{Name, Wire, decl_wires, defparam_statement, first_places, has_name, implicit_names, instance_statement, module_uses, net_decl, net_decls, port_names, wires}
use Rattle.vlog_values.specs.Values.{AreAttrs, AreInstances, IsAttr, IsDefSet, IsHeader, IsItem, IsModule, IsName, IsNetDecl, IsPortDecl, IsRange}
use Rattle.vlog_values.specs.declared.declaration.NetDecl.{NetDecl}
use Rattle.vlog_values.specs.declared.declaration.PortDecl.{PortDecl}
use Rattle.vlog_values.specs.declared.expression.Attr.{Attr}
use Rattle.vlog_values.specs.declared.module.Header.{Header}
use Rattle.vlog_values.specs.declared.module.Header.TheVariants as headers
use Rattle.vlog_values.specs.declared.module.ItemV.{ItemV}
use Rattle.vlog_values.specs.declared.module.ItemV.TheVariants as items
use Rattle.vlog_values.specs.declared.module.Module.{Module}
use Rattle.vlog_design_laws.proofs.Lists.{all_append, all_filter, all_flat, all_map, found}
use Rattle.vlog_design.specs.Names.{header_decls, port_decl, port_decls, port_range}
use Rattle.vlog_design_laws.proofs.ExprNames.{module_named}

-- ---- attributes

attrs_if_good : (here : Bool) (attrs : List Attr) → AreAttrs attrs → AreAttrs (attrs_if here attrs)
attrs_if_good true attrs h = h
attrs_if_good false attrs h = tt

attrs_in_item_good : (name : Name) (item : ItemV) → IsItem item → AreAttrs (attrs_in_item name item)
attrs_in_item_good name (items.Port d) h = attrs_if_good (has_name d.names name) d.attrs h.attrs
attrs_in_item_good name (items.Net d) h = attrs_if_good (has_name d.names name) d.attrs h.attrs
attrs_in_item_good name (items.Param d) h = tt
attrs_in_item_good name (items.Assign s) h = tt
attrs_in_item_good name (items.Instances s) h = tt
attrs_in_item_good name (items.Defparam s) h = tt

attrs_in_header_good : (name : Name) (header : Header) → IsHeader header → AreAttrs (attrs_in_header name header)
attrs_in_header_good name (headers.Names ns) h = tt
attrs_in_header_good name (headers.Decls ds) h = all_flat IsPortDecl IsAttr (λ d. attrs_if (has_name d.names name) d.attrs) (λ d k. attrs_if_good (has_name d.names name) d.attrs k.attrs) ds h.all

-- ---- statements

statement_of : (item : ItemV) → IsItem item → AllByRecursion AreInstances (instance_statement item)
statement_of (items.Instances s) h = (h, tt)
statement_of (items.Port d) h = tt
statement_of (items.Net d) h = tt
statement_of (items.Param d) h = tt
statement_of (items.Assign s) h = tt
statement_of (items.Defparam s) h = tt

def_sets_of : (item : ItemV) → IsItem item → AllByRecursion IsDefSet (flat_map (λ statement. statement.sets) (defparam_statement item))
def_sets_of (items.Defparam s) h = all_append IsDefSet s.sets [] h.sets.all tt
def_sets_of (items.Port d) h = tt
def_sets_of (items.Net d) h = tt
def_sets_of (items.Param d) h = tt
def_sets_of (items.Assign s) h = tt
def_sets_of (items.Instances s) h = tt

net_decl_of : (item : ItemV) → IsItem item → AllByRecursion IsNetDecl (net_decl item)
net_decl_of (items.Net d) h = (h, tt)
net_decl_of (items.Port d) h = tt
net_decl_of (items.Param d) h = tt
net_decl_of (items.Assign s) h = tt
net_decl_of (items.Instances s) h = tt
net_decl_of (items.Defparam s) h = tt

header_decls_good : (header : Header) → IsHeader header → AllByRecursion IsPortDecl (header_decls header)
header_decls_good (headers.Names ns) h = tt
header_decls_good (headers.Decls ds) h = h.all

port_decl_good : (item : ItemV) → IsItem item → AllByRecursion IsPortDecl (port_decl item)
port_decl_good (items.Port d) h = (h, tt)
port_decl_good (items.Net d) h = tt
port_decl_good (items.Param d) h = tt
port_decl_good (items.Assign s) h = tt
port_decl_good (items.Instances s) h = tt
port_decl_good (items.Defparam s) h = tt

range_if : (o : Option PortDecl) → IfSome o IsPortDecl → IfSome (option_and_then (λ decl. decl.range) o) IsRange
range_if None h = tt
range_if (Some d) h = h.range

-- a net that is declared or that a use makes one
pub record IsWire (wire : Wire) : Type 0 where
  pub name : IsName wire.name
  pub range : IfSome wire.range IsRange
  pub attrs : AreAttrs wire.attrs

module _ (m : Module) (good : IsModule m) where
  pub port_attrs_good : (name : Name) → AreAttrs (port_attrs m name)
  unfolding port_attrs
  port_attrs_good name =
      all_append IsAttr (attrs_in_header name m.header) (flat_map (attrs_in_item name) m.items) (attrs_in_header_good name m.header good.header) (all_flat IsItem IsAttr (attrs_in_item name) (attrs_in_item_good name) m.items good.items)

  pub range_good : (name : Name) → IfSome (port_range m name) IsRange
  unfolding port_range port_decls
  range_good name = range_if _ (found IsPortDecl (λ decl. has_name decl.names name) (header_decls m.header ++ flat_map port_decl m.items)
      (all_append IsPortDecl (header_decls m.header) (flat_map port_decl m.items) (header_decls_good m.header good.header) (all_flat IsItem IsPortDecl port_decl port_decl_good m.items good.items)))

  pub statements_good : AllByRecursion AreInstances (flat_map instance_statement m.items)
  statements_good = all_flat IsItem AreInstances instance_statement statement_of m.items good.items

  pub sets_good : AllByRecursion IsDefSet (def_sets m)
  sets_good = all_flat IsItem IsDefSet (λ item. flat_map (λ statement. statement.sets) (defparam_statement item)) def_sets_of m.items good.items

  declared_good : (d : NetDecl) → IsNetDecl d → AllByRecursion IsWire (decl_wires m d)
  declared_good d h = all_map IsName IsWire _ (λ name k. record { name = k; range = h.range; attrs = h.attrs }) (filter (λ name. not (has_name (port_names m) name)) d.names) (all_filter IsName (λ name. not (has_name (port_names m) name)) d.names h.names.all)

  first_good : (names : List Name) → AllByRecursion IsName names → AllByRecursion IsName (first_places names)
  unfolding first_places
  first_good [] h = tt
  first_good (name ∷ names) h = (h.0, all_filter IsName (λ other. not (bytes_eq name other)) (first_places names) (first_good names h.1))

  implicit_good : AllByRecursion IsName (implicit_names m)
  unfolding implicit_names
  implicit_good = first_good _ (all_filter IsName _ (map (λ u. u.name) (module_uses m)) (all_map (λ u. IsName u.name) IsName (λ u. u.name) (λ u h. h) (module_uses m) (module_named m good)))

  pub wires_good : AllByRecursion IsWire (wires m)
  unfolding wires net_decls
  wires_good = all_append IsWire (flat_map (decl_wires m) (flat_map net_decl m.items)) _
      (all_flat IsNetDecl IsWire (decl_wires m) declared_good (flat_map net_decl m.items) (all_flat IsItem IsNetDecl net_decl net_decl_of m.items good.items))
      (all_map IsName IsWire _ (λ name k. record { name = k; range = tt; attrs = tt }) (implicit_names m) implicit_good)
