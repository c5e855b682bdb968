-- What the declarations of a module say of its ports, and the ports by it.
use Rattle.std.specs.Prelude.{ℕ, List, [], ◌∷◌, ◌++◌, map, filter, flat_map, bytes_eq, Option, Some, None, if◌then◌else◌}
use Rattle.std.specs.Option.{option_and_then}
use Rattle.nl_base.specs.Ranges.{Bounds}
use Rattle.nl_base.specs.declared.value.Dir.{Dir}
use Rattle.nl_base.specs.declared.value.Dir.TheVariants.{Inout}
use Rattle.net_hier.specs.declared.cells.HPort.{HPort}
use Rattle.vlog_design.specs.Design.{attr_props}
use Rattle.vlog_design.specs.Names.{Name, Signal, signal_named}
use Rattle.vlog_values.specs.declared.expression.Attr.{Attr}
use Rattle.vlog_values.specs.declared.declaration.NetDecl.{NetDecl}
use Rattle.vlog_values.specs.declared.declaration.PortDecl.{PortDecl}
use Rattle.vlog_values.specs.declared.module.Header.{Header}
use Rattle.vlog_values.specs.declared.module.Header.TheVariants.{Names, Decls}
use Rattle.vlog_values.specs.declared.module.ItemV.{ItemV}
use Rattle.vlog_values.specs.declared.module.ItemV.TheVariants.{Port, Net, Param, Assign, Instances, Defparam}
use Rattle.vlog_values.specs.declared.module.Module.{Module}
use Rattle.vlog_cells.specs.Groups.{under}
use Rattle.vlog_cells.specs.Nets.{names_port}
use Rattle.vlog_cells.specs.declared.mentions.Mention.{Mention}

-- what a declaration says of a name: its direction, where it gives one, and its attributes
pub record Said : Type 0 where
  pub dir : Option Dir
  pub attrs : List Attr

-- what a mention says
abbrev pub said : Mention → Said
said mention = record { dir = mention.dir; attrs = mention.attrs.now }

-- what is said of a name
unfoldable pub said_of : List (List ℕ × List Mention) → Name → List Said
said_of found key = map said (under found key)

-- what a declaration of these names says of a name
abbrev pub said_in_names : Said → List Name → Name → List Said
said_in_names what names key = flat_map (λ name. if bytes_eq key name then what ∷ [] else []) names

-- what a declaration of ports says of a name
abbrev pub said_by_port : PortDecl → Name → List Said
said_by_port decl key = said_in_names (record { dir = Some decl.dir; attrs = decl.attrs }) decl.names key

-- the same, by the name
abbrev pub port_said : Name → PortDecl → List Said
port_said key decl = said_by_port decl key

-- what a header says of a name (12.3.4)
abbrev pub said_in_header : Name → Header → List Said
said_in_header key (Names names) = []
said_in_header key (Decls decls) = flat_map (port_said key) decls

-- what a declaration of nets says of a port of the table
abbrev pub said_by_net : List Signal → NetDecl → Name → List Said
said_by_net table decl key = said_in_names (record { dir = None; attrs = decl.attrs }) (filter (names_port table) decl.names) key

-- what an item says of a port of the table
abbrev pub said_in_item : List Signal → Name → ItemV → List Said
said_in_item table key (Port decl) = said_by_port decl key
said_in_item table key (Net decl) = said_by_net table decl key
said_in_item table key (Param decl) = []
said_in_item table key (Assign statement) = []
said_in_item table key (Instances statement) = []
said_in_item table key (Defparam statement) = []

-- what a module says of a port of the table, in the order of the text
abbrev pub said_in_module : List Signal → Name → Module → List Said
said_in_module table key m = said_in_header key m.header ++ flat_map (said_in_item table key) m.items

-- the first direction that is said
abbrev pub dir_said : List Said → Dir
dir_said [] = Inout
dir_said (one ∷ rest) = dir_or one.dir (dir_said rest)
  where
    dir_or : Option Dir → Dir → Dir
    dir_or None dir = dir
    dir_or (Some dir) later = dir

-- the attributes that are said
abbrev pub attrs_said : List Said → List Attr
attrs_said = flat_map (λ one. one.attrs)

-- the range of the port or net of this name
abbrev pub range_in : List Signal → Name → Option Bounds
range_in table name = option_and_then (λ slot. slot.range) (signal_named table name)

-- a port, by the table of the module and what is said of it
abbrev pub port_by : List Signal → List (List ℕ × List Mention) → Name → HPort
port_by table found name = record { name = name; range = range_in table name; dir = dir_said (said_of found name); props = attr_props (attrs_said (said_of found name)) }
