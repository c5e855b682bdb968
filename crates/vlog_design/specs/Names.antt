-- The names of a module: what is declared, and what a use makes a net (IEEE 1364-2005, 4.5, 4.11 and 12.3).
use Rattle.std.specs.Prelude.{ℕ, ◌+◌, Bool, true, false, cond, not, ◌&&◌, List, [], ◌∷◌, ◌++◌, map, filter, find, flat_map, bytes_eq, Option, None, option_to_list}
use Rattle.std.specs.List.{list_any}
use Rattle.std.specs.Option.{option_and_then, option_map}
use Rattle.nl_base.specs.Ranges.{Bounds}
use Rattle.net_hier.specs.Cells.{width_of}
use Rattle.vlog_values.specs.declared.expression.Attr.{Attr}
use Rattle.vlog_values.specs.declared.expression.Expr.{Expr}
use Rattle.vlog_values.specs.declared.expression.Expr.TheOpen.{Expr-F}
use Rattle.vlog_values.specs.declared.expression.Expr.TheFolds.{fold-Expr}
use Rattle.vlog_values.specs.declared.expression.Select.{Select}
use Rattle.vlog_values.specs.declared.expression.Select.TheVariants.{All, One, Slice}
use Rattle.vlog_values.specs.declared.statement.Assigns.{Assigns}
use Rattle.vlog_values.specs.declared.statement.Conns.{Conns}
use Rattle.vlog_values.specs.declared.statement.Conns.TheVariants.{Named, Order}
use Rattle.vlog_values.specs.declared.statement.Defparams.{Defparams}
use Rattle.vlog_values.specs.declared.module.Header.{Header}
use Rattle.vlog_values.specs.declared.module.Header.TheVariants.{Names, Decls}
use Rattle.vlog_values.specs.declared.statement.Instances.{Instances}
use Rattle.vlog_values.specs.declared.module.ItemV.{ItemV}
use Rattle.vlog_values.specs.declared.module.ItemV.TheVariants.{Port, Net, Param, Assign, Instances as InstancesItem, Defparam}
use Rattle.vlog_values.specs.declared.module.Module.{Module}
use Rattle.vlog_values.specs.declared.declaration.NetDecl.{NetDecl}
use Rattle.vlog_values.specs.declared.declaration.ParamDecl.{ParamDecl}
use Rattle.vlog_values.specs.declared.declaration.PortDecl.{PortDecl}
use Rattle.vlog_values.specs.declared.statement.VInst.{VInst}
use Rattle.vlog_design.specs.declared.signals.Kind.{Kind}
use Rattle.vlog_design.specs.declared.signals.Kind.TheVariants.{InHeader, Direction, NetDeclaration, Instance, Parameter}
use Rattle.vlog_design.specs.declared.signals.SignalAt.TheVariants.{AtPort, AtNet}
use Rattle.vlog_design.specs.declared.signals.Slot.{Slot}

-- names are compared byte for byte
abbrev pub Name : Type 0
Name = List ℕ

-- the name is one of these
abbrev pub has_name : List Name → Name → Bool
has_name names name = list_any (bytes_eq name) names

-- the names without those that stand before
unfoldable pub first_places : List Name → List Name
first_places [] = []
first_places (name ∷ names) = name ∷ filter (λ other. not (bytes_eq name other)) (first_places names)

-- the elements that clash with one that stands before
unfoldable pub clashing : {A : Type 0} → (A → A → Bool) → List A → List A → List A
clashing clash before [] = []
clashing clash before (x ∷ xs) = cond (list_any (clash x) before) (x ∷ clashing clash (before ++ x ∷ []) xs) (clashing clash (before ++ x ∷ []) xs)

-- the ports in the order of the header
unfoldable pub header_names : Header → List Name
header_names (Names names) = names
header_names (Decls decls) = flat_map (λ decl. decl.names) decls

-- the declarations in a header (12.3.4)
abbrev pub header_decls : Header → List PortDecl
header_decls (Names names) = []
header_decls (Decls decls) = decls

-- a declaration of ports among items (12.3.3)
abbrev pub port_decl : ItemV → List PortDecl
port_decl (Port decl) = decl ∷ []
port_decl _ = []

-- a declaration of nets (4.2.1)
abbrev pub net_decl : ItemV → List NetDecl
net_decl (Net decl) = decl ∷ []
net_decl _ = []

-- a declaration of parameters (4.10)
abbrev pub param_decl : ItemV → List ParamDecl
param_decl (Param decl) = decl ∷ []
param_decl _ = []

-- a statement of instances (12.1.2)
abbrev pub instance_statement : ItemV → List Instances
instance_statement (InstancesItem statement) = statement ∷ []
instance_statement _ = []

-- a statement of assignments (6.1)
abbrev pub assign_statement : ItemV → List Assigns
assign_statement (Assign statement) = statement ∷ []
assign_statement _ = []

-- a `defparam` statement (12.2.1)
abbrev pub defparam_statement : ItemV → List Defparams
defparam_statement (Defparam statement) = statement ∷ []
defparam_statement _ = []

-- the declarations and statements of a module in the order of the text
unfoldable pub port_decls : Module → List PortDecl
port_decls m = header_decls m.header ++ flat_map port_decl m.items

-- the declarations of nets, in the order of the text
unfoldable pub net_decls : Module → List NetDecl
net_decls m = flat_map net_decl m.items

-- the declarations of parameters, in the order of the text
unfoldable pub param_decls : Module → List ParamDecl
param_decls m = m.params ++ flat_map param_decl m.items

-- the statements of instances, in the order of the text
unfoldable pub instance_statements : Module → List Instances
instance_statements m = flat_map instance_statement m.items

-- the instances, in the order of the text
unfoldable pub instances : Module → List VInst
instances m = flat_map (λ statement. statement.insts) (instance_statements m)

-- the names that are declared
abbrev pub port_names : Module → List Name
port_names m = header_names m.header

-- the names that have a direction
abbrev pub direction_names : Module → List Name
direction_names m = flat_map (λ decl. decl.names) (port_decls m)

-- the names that are declared as nets
abbrev pub net_names : Module → List Name
net_names m = flat_map (λ decl. decl.names) (net_decls m)

-- the names of the instances
abbrev pub instance_names : Module → List Name
instance_names m = map (λ instance. instance.name) (instances m)

-- the names of the parameters
abbrev pub param_names : Module → List Name
param_names m = flat_map (λ decl. map (λ set. set.name) decl.sets) (param_decls m)

-- a declaration of a name
pub record Declaration : Type 0 where
  pub kind : Kind
  pub name : Name

-- a declaration of each name, all of one kind
abbrev pub declared_as : Kind → List Name → List Declaration
declared_as kind names = map (λ name. record { kind = kind; name = name }) names

-- what a declaration of parameters declares
abbrev pub declared_params : ParamDecl → List Declaration
declared_params decl = declared_as Parameter (map (λ set. set.name) decl.sets)

-- a declaration in the header lists a port and gives its direction
abbrev pub declared_port : Name → List Declaration
declared_port name = record { kind = InHeader; name = name } ∷ record { kind = Direction; name = name } ∷ []

-- what a header declares
abbrev pub declared_in_header : Header → List Declaration
declared_in_header (Names names) = declared_as InHeader names
declared_in_header (Decls decls) = flat_map (λ decl. flat_map declared_port decl.names) decls

-- what an item declares
abbrev pub declared_in_item : ItemV → List Declaration
declared_in_item (Port decl) = declared_as Direction decl.names
declared_in_item (Net decl) = declared_as NetDeclaration decl.names
declared_in_item (Param decl) = declared_params decl
declared_in_item (InstancesItem statement) = declared_as Instance (map (λ instance. instance.name) statement.insts)
declared_in_item (Assign statement) = []
declared_in_item (Defparam statement) = []

-- in the order of the text
unfoldable pub declarations : Module → List Declaration
declarations m = flat_map declared_params m.params ++ declared_in_header m.header ++ flat_map declared_in_item m.items

-- a declaration of the module has the name
unfoldable pub is_declared : Module → Name → Bool
is_declared m name = list_any (λ declaration. bytes_eq name declaration.name) (declarations m)

-- a name in an expression
pub record Use : Type 0 where
  pub name : Name
  pub select : Select

-- lists of names, one after another
abbrev pub joined : List (List Use) → List Use
joined = flat_map (λ uses. uses)

-- the names in an expression by those in its parts
abbrev pub uses_step : Expr-F (List Use) → List Use
uses_step (Expr-F.Ref select name) = record { name = name; select = select } ∷ []
uses_step (Expr-F.Lit literal) = []
uses_step (Expr-F.LooseNumber number) = []
uses_step (Expr-F.Loose based) = []
uses_step (Expr-F.Cat parts) = joined parts
uses_step (Expr-F.Rep count parts) = joined parts

-- the names in an expression, from the left
unfoldable pub uses : Expr → List Use
uses = fold-Expr (List Use) uses_step

-- the expressions of the connections
abbrev pub conn_exprs : Conns → List Expr
conn_exprs (Named conns) = flat_map (λ conn. option_to_list conn.value) conns
conn_exprs (Order values) = flat_map option_to_list values

-- the expressions of an item, the left of an `assign` before its right
abbrev pub item_exprs : ItemV → List Expr
item_exprs (Assign statement) = flat_map (λ set. set.left ∷ set.right ∷ []) statement.sets
item_exprs (InstancesItem statement) = flat_map (λ instance. conn_exprs instance.conns) statement.insts
item_exprs _ = []

-- those in which a name may be a net without a declaration: connections, and the left of an `assign`
abbrev pub item_targets : ItemV → List Expr
item_targets (Assign statement) = map (λ set. set.left) statement.sets
item_targets (InstancesItem statement) = flat_map (λ instance. conn_exprs instance.conns) statement.insts
item_targets _ = []

-- the names in the expressions of a module, in the order of the text
unfoldable pub module_uses : Module → List Use
module_uses m = flat_map uses (flat_map item_exprs m.items)

-- those of them that stand where a net may be without a declaration
unfoldable pub target_uses : Module → List Use
target_uses m = flat_map uses (flat_map item_targets m.items)

-- a name without a select
abbrev pub is_whole : Select → Bool
is_whole All = true
is_whole (One index) = false
is_whole (Slice from to) = false

-- a net without a declaration
unfoldable pub is_implicit : Module → Name → Bool
is_implicit m name = m.implicit && not (is_declared m name) && list_any (λ u. bytes_eq name u.name && is_whole u.select) (target_uses m)

-- in order of first use
unfoldable pub implicit_names : Module → List Name
implicit_names m = first_places (filter (is_implicit m) (map (λ u. u.name) (module_uses m)))

-- a net that is no port
pub record Wire : Type 0 where
  pub name : Name
  pub range : Option Bounds
  pub attrs : List Attr

-- the nets of a declaration that are no ports
abbrev pub decl_wires : Module → NetDecl → List Wire
decl_wires m decl = map (λ name. record { name = name; range = decl.range; attrs = decl.attrs }) (filter (λ name. not (has_name (port_names m) name)) decl.names)

-- the declared nets that are no ports, and then the implicit ones
unfoldable pub wires : Module → List Wire
wires m = flat_map (decl_wires m) (net_decls m) ++ map (λ name. record { name = name; range = None; attrs = [] }) (implicit_names m)

-- a name, and the port or net for which it stands
pub record Signal : Type 0 where
  pub name : Name
  pub slot : Slot

-- a port has the range of its direction declaration
unfoldable pub port_range : Module → Name → Option Bounds
port_range m name = option_and_then (λ decl. decl.range) (find (λ decl. has_name decl.names name) (port_decls m))

-- ports, of which the first has this number
abbrev pub port_signals : Module → ℕ → List Name → List Signal
port_signals m number [] = []
port_signals m number (name ∷ names) = record { name = name; slot = record { range = port_range m name; place = AtPort number } } ∷ port_signals m (number + 1) names

-- nets, of which the first bit has this number
abbrev pub net_signals : ℕ → List Wire → List Signal
net_signals first [] = []
net_signals first (wire ∷ wires) = record { name = wire.name; slot = record { range = wire.range; place = AtNet first } } ∷ net_signals (first + width_of wire.range) wires

-- the ports in the order of the header, then the nets; a net of n bits has n numbers
unfoldable pub signals : Module → List Signal
signals m = port_signals m 0 (port_names m) ++ net_signals 0 (wires m)

-- what a name stands for
unfoldable pub signal_named : List Signal → Name → Option Slot
signal_named signals name = option_map (λ signal. signal.slot) (find (λ signal. bytes_eq name signal.name) signals)
