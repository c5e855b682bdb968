-- The rules of a design that is to be written in Verilog, as lists of the objects that break them.
use Rattle.std.specs.Prelude.{ℕ, Bool, true, false, not, ◌&&◌, nat_le, List, [], ◌∷◌, ◌++◌, length, map, filter, flat_map, bytes_eq, codes, Option, if◌then◌else◌}
use Rattle.std.specs.List.{list_all, list_any}
use Rattle.net_hier.specs.Design.{top_name}
use Rattle.net_hier.specs.declared.cells.HCell.{HCell}
use Rattle.net_hier.specs.declared.cells.HInst.{HInst}
use Rattle.net_hier.specs.declared.cells.HNet.{HNet}
use Rattle.net_hier.specs.declared.cells.HPort.{HPort}
use Rattle.net_hier.specs.declared.cells.HProp.{HProp}
use Rattle.net_live.specs.Last.{last_of}
use Rattle.nl_base.specs.declared.rule.Refusal.{Refusal}
use Rattle.nl_base.specs.declared.rule.Rule.{Rule}
use Rattle.nl_base.specs.declared.rule.Rule.TheVariants.{V1, V2, V3, V4, V5}
use Rattle.nl_base.specs.declared.value.PropValue.{PropValue}
use Rattle.nl_base.specs.declared.value.PropValue.TheVariants.{Str, Int, Flag, Scaled}
use Rattle.vlog_design.specs.Names.{Name, clashing, has_name}
use Rattle.vlog_design.specs.Rules.{Objects, each_alone, first_of, refused}

-- a byte of an escaped name (3.7.1)
abbrev pub is_graphic : ℕ → Bool
is_graphic byte = nat_le 33 byte && nat_le byte 126

-- a name that can be written: 1 to 1,024 bytes of 33 to 126
unfoldable pub is_name : Name → Bool
is_name name = nat_le 1 (length name) && nat_le (length name) 1024 && list_all is_graphic name

-- an object of this kind, where its name cannot be written
abbrev pub unwritable : Name → Name → Objects
unwritable kind name = if is_name name then [] else (kind ∷ name ∷ []) ∷ []

-- the properties whose names cannot be written
abbrev pub unwritable_props : List HProp → Objects
unwritable_props = flat_map (λ prop. unwritable (codes "property") prop.name)

-- an object with properties
abbrev pub unwritable_object : Name → Name → List HProp → Objects
unwritable_object kind name props = unwritable kind name ++ unwritable_props props

-- ports, each with its properties
abbrev pub unwritable_ports : List HPort → Objects
unwritable_ports = flat_map (λ port. unwritable_object (codes "port") port.name port.props)

-- instances, each with its properties
abbrev pub unwritable_instances : List HInst → Objects
unwritable_instances = flat_map (λ instance. unwritable_object (codes "instance") instance.name instance.props)

-- the properties of nets
abbrev pub unwritable_nets : List HNet → Objects
unwritable_nets = flat_map (λ net. unwritable_props net.props)

-- the names of a cell that cannot be written: the cell and its properties, each port and each instance with its properties, the properties of nets
unfoldable pub unwritable_names : HCell → Objects
unwritable_names cell = (unwritable_object (codes "cell") cell.name cell.props ++ unwritable_ports cell.ports) ++ (unwritable_instances cell.instances ++ unwritable_nets cell.nets)

-- the ports of a cell that have the name of one of its instances
unfoldable pub shared_names : HCell → Objects
shared_names cell = each_alone (filter (has_name (map (λ instance. instance.name) cell.instances)) (map (λ port. port.name) cell.ports))

-- a boolean
abbrev pub is_boolean : PropValue → Bool
is_boolean (Str text) = false
is_boolean (Int number) = false
is_boolean (Flag one) = true
is_boolean (Scaled number) = false

-- whether the last value of this name in a list of properties is a boolean
abbrev pub is_last_boolean : List HProp → Name → Bool
is_last_boolean props name = list_any (λ prop. bytes_eq name prop.name && is_boolean prop.value) (last_of props)

-- the names in a list of properties that are those of parameters, and whose last value is a boolean
abbrev pub boolean_params : (Name → Bool) → List HProp → List Name
boolean_params is_param props = filter (λ name. is_param name && is_last_boolean props name) (map (λ prop. prop.name) props)

-- the properties of an instance that are to be parameters, and whose last value is a boolean
abbrev pub boolean_params_of : (Name → Bool) → HInst → Objects
boolean_params_of is_param instance = map (λ name. instance.name ∷ name ∷ []) (boolean_params is_param instance.props)

-- those of the instances of a cell
unfoldable pub boolean_parameters : (Name → Bool) → HCell → Objects
boolean_parameters is_param cell = flat_map (boolean_params_of is_param) cell.instances

-- a rule of cells
abbrev pub in_cells : Rule → (HCell → Objects) → List HCell → List Refusal
in_cells rule objects cells = flat_map (λ cell. map (refused rule cell.name) (objects cell)) cells

-- a second cell of one name, which is named alone
abbrev pub cells_twice : List HCell → List Refusal
cells_twice cells = map (λ name. refused V2 name []) (clashing bytes_eq [] (map (λ cell. cell.name) cells))

-- the names of the design's properties that cannot be written
abbrev pub unwritable_of_design : Name → List HProp → List Refusal
unwritable_of_design top props = map (λ prop. refused V4 top (prop.name ∷ [])) (filter (λ prop. not (is_name prop.name)) props)

-- the refusals of a design by all rules, the lowest rule first; `is_param` tells which names are those of parameters
unfoldable pub refusals : List HCell → ℕ → List HProp → (Name → Bool) → List Refusal
refusals cells top props is_param = in_cells V1 unwritable_names cells
    ++ cells_twice cells
    ++ in_cells V3 shared_names cells
    ++ unwritable_of_design (top_name cells top) props
    ++ in_cells V5 (boolean_parameters is_param) cells

-- the first object of the least rule that is broken
unfoldable pub first_V : List HCell → ℕ → List HProp → (Name → Bool) → Option Refusal
first_V cells top props is_param = first_of (refusals cells top props is_param)
