-- What a module shows to the others, and the cells of modules by what all of them show (IEEE 1364-2005, 12.3).
use Rattle.std.specs.Prelude.{Bool, List, [], ◌∷◌, flat_map, if◌then◌else◌, map}
use Rattle.net_hier.specs.declared.cells.HCell.{HCell}
use Rattle.vlog_design.specs.Design.{module_cell}
use Rattle.vlog_design.specs.Names.{has_name, port_decl}
use Rattle.vlog_values.specs.declared.declaration.PortDecl.{PortDecl}
use Rattle.vlog_values.specs.declared.module.Header.{Header}
use Rattle.vlog_values.specs.declared.module.Header.TheVariants as headers
use Rattle.vlog_values.specs.declared.module.ItemV.{ItemV}
use Rattle.vlog_values.specs.declared.module.ItemV.TheVariants as items
use Rattle.vlog_values.specs.declared.module.Module.{Module}

-- a declaration of ports without its attributes
abbrev pub bare_port : PortDecl → PortDecl
bare_port decl = record { attrs = []; dir = decl.dir; kind = decl.kind; signed = decl.signed; range = decl.range; names = decl.names }

-- a header without attributes
unfoldable pub bare_header : Header → Header
bare_header (headers.Names names) = headers.Names names
bare_header (headers.Decls decls) = headers.Decls (map bare_port decls)

-- an item without its attributes, where it declares ports
unfoldable pub bare_item : ItemV → List ItemV
bare_item item = map (λ decl. items.Port (bare_port decl)) (port_decl item)

-- what a module shows to the others: its name, its header and its declarations of ports
abbrev pub interface : Module → Module
interface m = record { attrs = []; name = m.name; implicit = m.implicit; params = []; header = bare_header m.header; items = flat_map bare_item m.items }

-- the module is one of those that are shown
abbrev pub is_shown : List Module → Module → Bool
is_shown shown m = has_name (map (λ other. other.name) shown) m.name

-- the cell of a module that is one of those that are shown
unfoldable pub cell_shown : List Module → Module → List HCell
cell_shown shown m = if is_shown shown m then module_cell shown m ∷ [] else []

-- the cells of those modules that are shown
abbrev pub cells_shown : List Module → List Module → List HCell
cells_shown shown modules = flat_map (cell_shown shown) modules
