-- The design of a Verilog file: the cells, nets, instances and joins that its modules are (IEEE 1364-2005, 4 to 6 and 12).
use Rattle.std.specs.Prelude.{ℕ, ◌+◌, Bool, true, false, ◌||◌, List, [], ◌∷◌, ◌++◌, map, filter, find, flat_map, zip, take, length, bytes_eq, codes, Option, Some, None, if◌then◌else◌}
use Rattle.std.specs.Option.{option_map_or}
use Rattle.std.specs.List.{range_with_len, position_or_len}
use Rattle.net_hier.specs.declared.cells.HCell.{HCell}
use Rattle.net_hier.specs.declared.cells.HInst.{HInst}
use Rattle.net_hier.specs.declared.cells.HNet.{HNet}
use Rattle.net_hier.specs.declared.cells.HPort.{HPort}
use Rattle.net_hier.specs.declared.cells.HProp.{HProp}
use Rattle.net_hier.specs.declared.nodes.Join.{Join}
use Rattle.net_hier.specs.declared.nodes.Node.{Node}
use Rattle.net_hier.specs.declared.nodes.Node.TheVariants.{Pin, Zero, One}
use Rattle.nl_base.specs.declared.value.Dir.{Dir}
use Rattle.nl_base.specs.declared.value.Dir.TheVariants.{Inout}
use Rattle.nl_base.specs.declared.value.PropValue.{PropValue}
use Rattle.nl_base.specs.declared.value.PropValue.TheVariants.{Str as StrValue, Int as IntValue, Flag, Scaled as ScaledValue}
use Rattle.nl_base.specs.Ranges.{Bounds, index_at}
use Rattle.vlog_design.specs.Exprs.{bits, has_loose, live_width, node_at, width}
use Rattle.vlog_design.specs.Names.{Name, Signal, Wire, defparam_statement, has_name, instance_statements, port_decls, port_names, port_range, signal_named, signals, uses, wires}
use Rattle.net_hier.specs.Cells.{width_of}
use Rattle.std.specs.Fmt.{signed_decimal}
use Rattle.vlog_design.specs.Reach.{module_named, module_number, reached}
use Rattle.vlog_values.specs.Spelling.{based_spelling, literal_spelling}
use Rattle.vlog_values.specs.declared.expression.Attr.{Attr}
use Rattle.vlog_values.specs.declared.expression.Const.{Const}
use Rattle.vlog_values.specs.declared.expression.Const.TheVariants.{Str, Number, Real, Lit, Loose}
use Rattle.vlog_values.specs.declared.expression.Expr.{Expr}
use Rattle.vlog_values.specs.declared.statement.Conns.{Conns}
use Rattle.vlog_values.specs.declared.statement.Conns.TheVariants.{Named, Order}
use Rattle.vlog_values.specs.declared.statement.DefSet.{DefSet}
use Rattle.vlog_values.specs.declared.module.Header.{Header}
use Rattle.vlog_values.specs.declared.module.Header.TheVariants.{Names, Decls}
use Rattle.vlog_values.specs.declared.statement.Instances.{Instances}
use Rattle.vlog_values.specs.declared.module.ItemV.{ItemV}
use Rattle.vlog_values.specs.declared.module.ItemV.TheVariants.{Port, Net, Param, Assign, Instances as InstancesItem, Defparam}
use Rattle.vlog_values.specs.declared.module.Module.{Module}
use Rattle.vlog_values.specs.declared.declaration.NetKind.{NetKind}
use Rattle.vlog_values.specs.declared.declaration.NetKind.TheVariants.{Wire as WireKind, Tri, Supply0, Supply1}
use Rattle.vlog_values.specs.declared.declaration.ParamSet.{ParamSet}
use Rattle.vlog_values.specs.declared.statement.VInst.{VInst}
use Rattle.vlog_values.specs.declared.module.VlogFile.{VlogFile}
use Rattle.vlog_design.specs.declared.signals.Slot.{Slot}

-- constants as property values

-- what a constant is in a parameter
unfoldable pub param_value : Const → PropValue
param_value (Str text) = StrValue text
param_value (Number number) = IntValue number
param_value (Real number) = ScaledValue number
param_value (Lit literal) = StrValue (literal_spelling literal)
param_value (Loose based) = StrValue (based_spelling based)

-- in an attribute `1'b0` and `1'b1` are booleans
unfoldable pub attr_value : Const → PropValue
attr_value (Str text) = StrValue text
attr_value (Number number) = IntValue number
attr_value (Real number) = ScaledValue number
attr_value (Lit literal) =
    if bytes_eq (literal_spelling literal) (codes "1'b0") then Flag false
    else if bytes_eq (literal_spelling literal) (codes "1'b1") then Flag true
    else StrValue (literal_spelling literal)
attr_value (Loose based) = StrValue (based_spelling based)

-- the properties that attributes are (3.8)
abbrev pub attr_props : List Attr → List HProp
attr_props = map (λ attr. record { name = attr.name; value = attr_value attr.value })

-- the properties that values of parameters are (12.2.2.2)
abbrev pub param_props : List ParamSet → List HProp
param_props = map (λ set. record { name = set.name; value = param_value set.value })

-- ports

-- the attributes, where the condition holds
abbrev pub attrs_if : Bool → List Attr → List Attr
attrs_if here attrs = if here then attrs else []

-- the attributes of an item that declares the name as a port or a net
abbrev pub attrs_in_item : Name → ItemV → List Attr
attrs_in_item name (Port decl) = attrs_if (has_name decl.names name) decl.attrs
attrs_in_item name (Net decl) = attrs_if (has_name decl.names name) decl.attrs
attrs_in_item name _ = []

-- the attributes with which the header declares the name (12.3.4)
abbrev pub attrs_in_header : Name → Header → List Attr
attrs_in_header name (Names names) = []
attrs_in_header name (Decls decls) = flat_map (λ decl. attrs_if (has_name decl.names name) decl.attrs) decls

-- in the order of the text
unfoldable pub port_attrs : Module → Name → List Attr
port_attrs m name = attrs_in_header name m.header ++ flat_map (attrs_in_item name) m.items

-- the direction that is declared for a port (12.3.3)
unfoldable pub port_dir : Module → Name → Dir
port_dir m name = option_map_or (λ decl. decl.dir) (find (λ decl. has_name decl.names name) (port_decls m)) Inout

-- the ports of a module, in the order of the header (12.3.2)
unfoldable pub module_ports : Module → List HPort
module_ports m = map (λ name. record { name = name; range = port_range m name; dir = port_dir m name; props = attr_props (port_attrs m name) }) (port_names m)

-- nets

-- one net for each bit, from the left: `name`, or `name[index]` where there is a range
abbrev pub net_name : Name → Option Bounds → ℕ → List ℕ
net_name name None bit = name
net_name name (Some range) bit = name ++ 91 ∷ signed_decimal (index_at range bit) ++ 93 ∷ []

-- the nets of a declared net, one for each bit from the left (4.3)
abbrev pub wire_nets : Wire → List HNet
wire_nets wire = map (λ bit. record { name = net_name wire.name wire.range bit; props = attr_props wire.attrs }) (range_with_len 0 (width_of wire.range))

-- the nets of a module (4.2.1)
unfoldable pub module_nets : Module → List HNet
module_nets m = flat_map wire_nets (wires m)

-- instances

-- the values that `defparam` statements give, in the order of the text (12.2.1)
abbrev pub def_sets : Module → List DefSet
def_sets m = flat_map (λ item. flat_map (λ statement. statement.sets) (defparam_statement item)) m.items

-- the properties that `defparam` statements give an instance
abbrev pub defparam_props : Module → Name → List HProp
defparam_props m instance = map (λ set. record { name = set.name; value = param_value set.value }) (filter (λ set. bytes_eq instance set.instance) (def_sets m))

-- the instances of a statement: their properties are its attributes, its parameters, and then the values by `defparam` (12.1.2)
abbrev pub statement_instances : List Module → Module → Instances → List HInst
statement_instances modules m statement = map (λ instance. record {
  name = instance.name;
  cell = module_number modules statement.module;
  props = attr_props statement.attrs ++ param_props statement.params ++ defparam_props m instance.name;
}) statement.insts

-- the instances of a module, in the order of the text
unfoldable pub module_instances : List Module → Module → List HInst
module_instances modules m = flat_map (statement_instances modules m) (instance_statements m)

-- joins

-- two sides that are joined bit by bit, with the names of the object in a refusal
pub record Pairing : Type 0 where
  pub names : List Name
  pub left_width : ℕ
  pub right_width : ℕ
  pub live : ℕ
  pub left : List (Option Node)
  pub right : List (Option Node)
  pub is_loose : Bool

-- the join of two bits, where both are something
abbrev pub join_of : Option Node → Option Node → List Join
join_of (Some a) (Some b) = record { a = a; b = b } ∷ []
join_of (Some a) None = []
join_of None b = []

-- where either side is nothing there is no join
unfoldable pub joins_between : List (Option Node) → List (Option Node) → List Join
joins_between left right = flat_map (λ pair. join_of pair.0 pair.1) (zip left right)

-- a connection of a port, by the port's number
pub record Connection : Type 0 where
  pub number : ℕ
  pub port : Name
  pub range : Option Bounds
  pub value : Expr

-- the number of a port in the order of the header
abbrev pub port_number : Module → Name → ℕ
port_number m name = position_or_len (bytes_eq name) (port_names m)

-- a connection by name, where the port is there and the connection is not open (12.3.6)
abbrev pub connection_named : Module → Name → Option Expr → List Connection
connection_named m name None = []
connection_named m name (Some value) =
    if has_name (port_names m) name then record { number = port_number m name; port = name; range = port_range m name; value = value } ∷ [] else []

-- connections in the order of the ports, of which the first has this number; open ones are none (12.3.5)
abbrev pub connections_in_order : Module → ℕ → List Name → List (Option Expr) → List Connection
connections_in_order m number [] values = []
connections_in_order m number (name ∷ names) [] = []
connections_in_order m number (name ∷ names) (None ∷ values) = connections_in_order m (number + 1) names values
connections_in_order m number (name ∷ names) (Some value ∷ values) =
    record { number = number; port = name; range = port_range m name; value = value } ∷ connections_in_order m (number + 1) names values

-- the connections to ports that are there, in the order of the text
unfoldable pub connections : Module → Conns → List Connection
connections m (Named conns) = flat_map (λ conn. connection_named m conn.port conn.value) conns
connections m (Order values) = connections_in_order m 0 (port_names m) values

-- the bits of a pin beside those of its expression
abbrev pub pairing_of_connection : List Signal → ℕ → Name → Connection → Pairing
pairing_of_connection names number instance connection = record {
  names = instance ∷ connection.port ∷ [];
  left_width = width_of connection.range;
  right_width = width names connection.value;
  live = live_width names connection.value;
  left = map (λ bit. Some (Pin number connection.number bit)) (range_with_len 0 (width_of connection.range));
  right = bits names connection.value;
  is_loose = has_loose connection.value;
}

-- the first name in an expression
abbrev pub first_use : Expr → List Name
first_use expr = map (λ u. u.name) (take 1 (uses expr))

-- the bits of the two sides of an assignment (6.1)
abbrev pub pairing_of_assign : List Signal → Expr → Expr → Pairing
pairing_of_assign names left right = record {
  names = codes "assign" ∷ first_use left;
  left_width = width names left;
  right_width = width names right;
  live = live_width names right;
  left = bits names left;
  right = bits names right;
  is_loose = has_loose left || has_loose right;
}

-- the pairings of a statement whose first instance has this number
abbrev pub pairings_of_instances : List Module → List Signal → Instances → ℕ → List VInst → List Pairing
pairings_of_instances modules names statement number [] = []
pairings_of_instances modules names statement number (instance ∷ rest) =
    option_map_or (λ below. map (pairing_of_connection names number instance.name) (connections below instance.conns)) (module_named modules statement.module) []
    ++ pairings_of_instances modules names statement (number + 1) rest

-- the pairings of an item whose first instance has this number
unfoldable pub item_pairings : List Module → List Signal → ℕ → ItemV → List Pairing
item_pairings modules names number (Assign statement) = map (λ set. pairing_of_assign names set.left set.right) statement.sets
item_pairings modules names number (InstancesItem statement) = pairings_of_instances modules names statement number statement.insts
item_pairings modules names number (Port decl) = []
item_pairings modules names number (Net decl) = []
item_pairings modules names number (Param decl) = []
item_pairings modules names number (Defparam statement) = []

-- how many instances an item has
abbrev pub instance_count : ItemV → ℕ
instance_count (InstancesItem statement) = length statement.insts
instance_count _ = 0

-- the pairings of items, before which this many instances stand
abbrev pub pairings_from : List Module → List Signal → ℕ → List ItemV → List Pairing
pairings_from modules names number [] = []
pairings_from modules names number (item ∷ items) = item_pairings modules names number item ++ pairings_from modules names (number + instance_count item) items

-- all pairings of a module, in the order of the text
unfoldable pub pairings : List Module → Module → List Pairing
pairings modules m = pairings_from modules (signals m) 0 m.items

-- a supply joins each bit to its constant
abbrev pub supply_node : NetKind → List Node
supply_node WireKind = []
supply_node Tri = []
supply_node Supply0 = Zero ∷ []
supply_node Supply1 = One ∷ []

-- joins of each bit of a port or net to a constant
abbrev pub slot_joins : Node → Slot → List Join
slot_joins constant slot = map (λ bit. record { a = node_at slot.place bit; b = constant }) (range_with_len 0 (width_of slot.range))

-- joins of the bits of these names to a constant (4.6.6)
abbrev pub supply_joins : List Signal → List Name → Node → List Join
supply_joins names declared constant = flat_map (λ name. option_map_or (slot_joins constant) (signal_named names name) []) declared

-- the joins of an item whose first instance has this number
abbrev pub item_joins : List Module → List Signal → ℕ → ItemV → List Join
item_joins modules names number (Net decl) = flat_map (supply_joins names decl.names) (supply_node decl.kind)
item_joins modules names number item = flat_map (λ pairing. joins_between pairing.left pairing.right) (item_pairings modules names number item)

-- the joins of items, before which this many instances stand
abbrev pub joins_from : List Module → List Signal → ℕ → List ItemV → List Join
joins_from modules names number [] = []
joins_from modules names number (item ∷ items) = item_joins modules names number item ++ joins_from modules names (number + instance_count item) items

-- in the order of items, then from the left
unfoldable pub module_joins : List Module → Module → List Join
module_joins modules m = joins_from modules (signals m) 0 m.items

-- the design

-- the cell of a module
unfoldable pub module_cell : List Module → Module → HCell
module_cell modules m = record {
  name = m.name;
  ports = module_ports m;
  instances = module_instances modules m;
  nets = module_nets m;
  joins = module_joins modules m;
  props = attr_props m.attrs;
}

-- cells, the number of the top, and the properties of the design
pub record VlogDesign : Type 0 where
  pub cells : List HCell
  pub top : ℕ
  pub props : List HProp

-- the reached modules in file order, and no properties of the design
unfoldable pub vlog_design : VlogFile → Name → VlogDesign
vlog_design file top = record {
  cells = map (module_cell (reached file top)) (reached file top);
  top = module_number (reached file top) top;
  props = [];
}
