-- What a module declares, and what its items tie (IEEE 1364-2005, 4.6.6, 6.1 and 12.1).
use Rattle.std.specs.Prelude.{List, [], ◌∷◌, flat_map, map}
use Rattle.vlog_design.specs.Design.{supply_node}
use Rattle.vlog_values.specs.declared.declaration.NetDecl.{NetDecl}
use Rattle.vlog_values.specs.declared.module.ItemV.{ItemV}
use Rattle.vlog_values.specs.declared.module.ItemV.TheVariants as items
use Rattle.vlog_values.specs.declared.module.Module.{Module}

-- an item that is no assignment and no statement of instances
abbrev pub declared_item : ItemV → List ItemV
declared_item (items.Port decl) = items.Port decl ∷ []
declared_item (items.Net decl) = items.Net decl ∷ []
declared_item (items.Param decl) = items.Param decl ∷ []
declared_item (items.Assign statement) = []
declared_item (items.Instances statement) = []
declared_item (items.Defparam statement) = items.Defparam statement ∷ []

-- the module without its assignments and its instances
abbrev pub declared_part : Module → Module
declared_part m = record { attrs = m.attrs; name = m.name; implicit = m.implicit; params = m.params; header = m.header; items = flat_map declared_item m.items }

-- a declaration of nets without its attributes
abbrev pub bare_net : NetDecl → NetDecl
bare_net decl = record { attrs = []; kind = decl.kind; signed = decl.signed; range = decl.range; names = decl.names }

-- an item that is an assignment or a statement of instances, or declares supplies, which is kept without attributes
abbrev pub tying_item : ItemV → List ItemV
tying_item (items.Port decl) = []
tying_item (items.Net decl) = map (λ constant. items.Net (bare_net decl)) (supply_node decl.kind)
tying_item (items.Param decl) = []
tying_item (items.Assign statement) = items.Assign statement ∷ []
tying_item (items.Instances statement) = items.Instances statement ∷ []
tying_item (items.Defparam statement) = []

-- the items of a module that tie nodes
abbrev pub tying_items : Module → List ItemV
tying_items m = flat_map tying_item m.items
