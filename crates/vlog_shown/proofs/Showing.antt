-- The cell of a module and the two sides of what it joins are the same by what all modules show.
use Rattle.std.proofs.Common.{◌≡◌, ℕ, ◌+◌, Bool, true, false, not, cond, List, [], ◌∷◌, ◌++◌, ◌&&◌, map, filter, find, flat_map, nat_eq, bytes_eq, Option, Some, None, refl, sym, ap, ◌∙◌}
use Rattle.std.specs.Prelude.{option_map}
use Rattle.std.specs.List.{position_or_len}
use Rattle.std.specs.Option.{option_and_then, option_map_or}
use Rattle.std.proofs.lemmas.List.{map-append}
use Rattle.net_hier.specs.declared.nodes.Join.{Join}
use Rattle.vlog_design.specs.Design.{Pairing, attr_props, connection_named, connections, connections_in_order, defparam_props, instance_count, item_joins, item_pairings, joins_between, joins_from, module_cell, module_instances, module_joins, module_nets, module_ports, pairing_of_connection, pairings_of_instances, pairings, pairings_from, param_props, statement_instances}
use Rattle.vlog_design.specs.Names.{Name, has_name, header_decls, header_names, instance_statements, port_decl, port_decls, port_names, port_range, signals}
use Rattle.vlog_design.specs.Reach.{module_named, module_number}
use Rattle.vlog_design.specs.Rules.{unequal_widths, unsized}
use Rattle.vlog_values.specs.declared.declaration.PortDecl.{PortDecl}
use Rattle.vlog_values.specs.declared.expression.Expr.{Expr}
use Rattle.vlog_values.specs.declared.module.Header.{Header}
use Rattle.vlog_values.specs.declared.module.Header.TheVariants as headers
use Rattle.vlog_values.specs.declared.module.ItemV.{ItemV}
use Rattle.vlog_values.specs.declared.module.ItemV.TheVariants as items
use Rattle.vlog_values.specs.declared.module.Module.{Module}
use Rattle.vlog_values.specs.declared.statement.Conns.{Conns}
use Rattle.vlog_values.specs.declared.statement.Conns.TheVariants as conns
use Rattle.vlog_values.specs.declared.statement.Instances.{Instances}
use Rattle.vlog_values.specs.declared.statement.NamedConn.{NamedConn}
use Rattle.vlog_values.specs.declared.statement.VInst.{VInst}
use Rattle.vlog_shown.specs.Interfaces.{bare_header, bare_item, bare_port, interface}

-- ---- the ports that a module shows

bare_names : (decls : List PortDecl) → flat_map (λ (d : PortDecl). d.names) (map bare_port decls) ≡ flat_map (λ (d : PortDecl). d.names) decls
bare_names [] = refl
bare_names (d ∷ decls) = ap (λ names. d.names ++ names) (bare_names decls)

pub header_shown : (header : Header) → header_names (bare_header header) ≡ header_names header
unfolding header_names bare_header
header_shown (headers.Names names) = refl
header_shown (headers.Decls decls) = bare_names decls

-- a module shows its ports
pub names_shown : (m : Module) → port_names (interface m) ≡ port_names m
names_shown m = header_shown m.header

decls_in_header : (header : Header) → header_decls (bare_header header) ≡ map bare_port (header_decls header)
unfolding bare_header
decls_in_header (headers.Names names) = refl
decls_in_header (headers.Decls decls) = refl

decls_in_items : (those : List ItemV) → flat_map port_decl (flat_map bare_item those) ≡ map bare_port (flat_map port_decl those)
unfolding bare_item
decls_in_items [] = refl
decls_in_items (items.Port decl ∷ those) = ap (λ decls. bare_port decl ∷ decls) (decls_in_items those)
decls_in_items (items.Net decl ∷ those) = decls_in_items those
decls_in_items (items.Param decl ∷ those) = decls_in_items those
decls_in_items (items.Assign statement ∷ those) = decls_in_items those
decls_in_items (items.Instances statement ∷ those) = decls_in_items those
decls_in_items (items.Defparam statement ∷ those) = decls_in_items those

-- and their declarations
decls_shown : (m : Module) → port_decls (interface m) ≡ map bare_port (port_decls m)
unfolding port_decls
decls_shown m = (λ j. decls_in_header m.header j ++ decls_in_items m.items j) ∙ sym (map-append bare_port (header_decls m.header) (flat_map port_decl m.items))

found_shown : (name : Name) (decls : List PortDecl) → option_and_then (λ (d : PortDecl). d.range) (find (λ (d : PortDecl). has_name d.names name) (map bare_port decls)) ≡ option_and_then (λ (d : PortDecl). d.range) (find (λ (d : PortDecl). has_name d.names name) decls)
found_shown name [] = refl
found_shown name (d ∷ decls) = by (has_name d.names name) _ _ (found_shown name decls)
  where
    by : (b : Bool) (o p : Option PortDecl) → option_and_then (λ (d : PortDecl). d.range) o ≡ option_and_then (λ (d : PortDecl). d.range) p → option_and_then (λ (d : PortDecl). d.range) (cond b (Some (bare_port d)) o) ≡ option_and_then (λ (d : PortDecl). d.range) (cond b (Some d) p)
    by true o p e = refl
    by false o p e = e

-- so it shows their ranges
pub range_shown : (m : Module) (name : Name) → port_range (interface m) name ≡ port_range m name
unfolding port_range
range_shown m name = ap (λ decls. option_and_then (λ (d : PortDecl). d.range) (find (λ (d : PortDecl). has_name d.names name) decls)) (decls_shown m) ∙ found_shown name (port_decls m)

-- ---- the connections to a module

named_same : (m : Module) (name : Name) (value : Option Expr) → connection_named (interface m) name value ≡ connection_named m name value
named_same m name None = refl
named_same m name (Some value) = λ j. cond (has_name (names_shown m j) name) (record { number = position_or_len (bytes_eq name) (names_shown m j); port = name; range = range_shown m name j; value = value } ∷ []) []

all_named_same : (m : Module) (those : List NamedConn) → flat_map (λ (c : NamedConn). connection_named (interface m) c.port c.value) those ≡ flat_map (λ (c : NamedConn). connection_named m c.port c.value) those
all_named_same m [] = refl
all_named_same m (c ∷ those) = λ j. named_same m c.port c.value j ++ all_named_same m those j

order_same : (m : Module) (number : ℕ) (names : List Name) (values : List (Option Expr)) → connections_in_order (interface m) number names values ≡ connections_in_order m number names values
order_same m number [] values = refl
order_same m number (name ∷ names) [] = refl
order_same m number (name ∷ names) (None ∷ values) = order_same m (number + 1) names values
order_same m number (name ∷ names) (Some value ∷ values) = λ j. record { number = number; port = name; range = range_shown m name j; value = value } ∷ order_same m (number + 1) names values j

-- connections to a module are the same by what it shows
pub connections_same : (m : Module) (those : Conns) → connections (interface m) those ≡ connections m those
unfolding connections
connections_same m (conns.Named cs) = all_named_same m cs
connections_same m (conns.Order values) = order_same m 0 (port_names (interface m)) values ∙ ap (λ names. connections_in_order m 0 names values) (names_shown m)

-- ---- modules by their names

place_same : (name : Name) (ms : List Module) → position_or_len (λ (m : Module). bytes_eq name m.name) (map interface ms) ≡ position_or_len (λ (m : Module). bytes_eq name m.name) ms
place_same name [] = refl
place_same name (m ∷ ms) = ap (λ n. cond (not (bytes_eq name m.name)) (1 + n) 0) (place_same name ms)

-- the number of a module is the same among what modules show
pub number_same : (ms : List Module) (name : Name) → module_number (map interface ms) name ≡ module_number ms name
unfolding module_number
number_same ms name = place_same name ms

found_same : (name : Name) (ms : List Module) → find (λ (m : Module). bytes_eq name m.name) (map interface ms) ≡ option_map interface (find (λ (m : Module). bytes_eq name m.name) ms)
found_same name [] = refl
found_same name (m ∷ ms) = by (bytes_eq name m.name) _ _ (found_same name ms)
  where
    by : (b : Bool) (o p : Option Module) → o ≡ option_map interface p → cond b (Some (interface m)) o ≡ option_map interface (cond b (Some m) p)
    by true o p e = refl
    by false o p e = e

-- and the module of a name is what that one shows
pub module_shown : (ms : List Module) (name : Name) → module_named (map interface ms) name ≡ option_map interface (module_named ms name)
unfolding module_named
module_shown ms name = found_same name ms

-- ---- the parts of a cell

module _ (ms : List Module) (m : Module) where
  abbrev shown : List Module
  shown = map interface ms

  pairs_of : ℕ → VInst → Option Module → List Pairing
  pairs_of number instance o = option_map_or (λ below. map (pairing_of_connection (signals m) number instance.name) (connections below instance.conns)) o []

  pairs_same : (number : ℕ) (instance : VInst) (o : Option Module) → pairs_of number instance (option_map interface o) ≡ pairs_of number instance o
  unfolding pairs_of
  pairs_same number instance None = refl
  pairs_same number instance (Some below) = ap (map (pairing_of_connection (signals m) number instance.name)) (connections_same below instance.conns)

  instances_pairs : (statement : Instances) (number : ℕ) (insts : List VInst) → pairings_of_instances shown (signals m) statement number insts ≡ pairings_of_instances ms (signals m) statement number insts
  unfolding pairs_of
  instances_pairs statement number [] = refl
  instances_pairs statement number (instance ∷ rest) =
      λ j. (ap (pairs_of number instance) (module_shown ms statement.module) ∙ pairs_same number instance (module_named ms statement.module)) j ++ instances_pairs statement (number + 1) rest j

  item_pairs : (number : ℕ) (item : ItemV) → item_pairings shown (signals m) number item ≡ item_pairings ms (signals m) number item
  unfolding item_pairings
  item_pairs number (items.Instances statement) = instances_pairs statement number statement.insts
  item_pairs number (items.Port decl) = refl
  item_pairs number (items.Net decl) = refl
  item_pairs number (items.Param decl) = refl
  item_pairs number (items.Assign statement) = refl
  item_pairs number (items.Defparam statement) = refl

  abbrev joins_of_pairs : List Pairing → List Join
  joins_of_pairs = flat_map (λ (p : Pairing). joins_between p.left p.right)

  item_same : (number : ℕ) (item : ItemV) → item_joins shown (signals m) number item ≡ item_joins ms (signals m) number item
  item_same number (items.Instances statement) = ap joins_of_pairs (item_pairs number (items.Instances statement))
  item_same number (items.Port decl) = ap joins_of_pairs (item_pairs number (items.Port decl))
  item_same number (items.Net decl) = refl
  item_same number (items.Param decl) = ap joins_of_pairs (item_pairs number (items.Param decl))
  item_same number (items.Assign statement) = ap joins_of_pairs (item_pairs number (items.Assign statement))
  item_same number (items.Defparam statement) = ap joins_of_pairs (item_pairs number (items.Defparam statement))

  all_joins_same : (number : ℕ) (those : List ItemV) → joins_from shown (signals m) number those ≡ joins_from ms (signals m) number those
  all_joins_same number [] = refl
  all_joins_same number (item ∷ those) = λ j. item_same number item j ++ all_joins_same (number + instance_count item) those j

  joins_same : module_joins shown m ≡ module_joins ms m
  unfolding module_joins
  joins_same = all_joins_same 0 m.items

  statement_same : (statement : Instances) → statement_instances shown m statement ≡ statement_instances ms m statement
  statement_same statement = λ j. map (λ (instance : VInst). record {
    name = instance.name;
    cell = number_same ms statement.module j;
    props = attr_props statement.attrs ++ param_props statement.params ++ defparam_props m instance.name;
  }) statement.insts

  statements_same : (those : List Instances) → flat_map (statement_instances shown m) those ≡ flat_map (statement_instances ms m) those
  statements_same [] = refl
  statements_same (statement ∷ those) = λ j. statement_same statement j ++ statements_same those j

  instances_same : module_instances shown m ≡ module_instances ms m
  unfolding module_instances
  instances_same = statements_same (instance_statements m)

  -- the cell of a module is the same by what all modules show
  pub cell_same : module_cell shown m ≡ module_cell ms m
  unfolding module_cell
  cell_same = λ j. record { name = m.name; ports = module_ports m; instances = instances_same j; nets = module_nets m; joins = joins_same j; props = attr_props m.attrs }

  -- ---- the two sides of what a module joins

  pairs_from_same : (number : ℕ) (those : List ItemV) → pairings_from shown (signals m) number those ≡ pairings_from ms (signals m) number those
  pairs_from_same number [] = refl
  pairs_from_same number (item ∷ those) = λ j. item_pairs number item j ++ pairs_from_same (number + instance_count item) those j

  pub pairings_same : pairings shown m ≡ pairings ms m
  unfolding pairings
  pairings_same = pairs_from_same 0 m.items

  -- so the rules on two sides say the same
  pub unequal_same : unequal_widths shown m ≡ unequal_widths ms m
  unfolding unequal_widths
  unequal_same = ap (λ (pairs : List Pairing). map (λ (p : Pairing). p.names) (filter (λ (p : Pairing). not (nat_eq p.left_width p.right_width) && not p.is_loose) pairs)) pairings_same

  pub unsized_same : unsized shown m ≡ unsized ms m
  unfolding unsized
  unsized_same = ap (λ (pairs : List Pairing). map (λ (p : Pairing). p.names) (filter (λ (p : Pairing). p.is_loose) pairs)) pairings_same
