-- The direction of a port (EDIF 2 0 0, direction).
use Rattle.std.specs.Prelude.{List, [], ◌∷◌, Option, Some, None}
use Rattle.std.specs.List.{filter_map}
use Rattle.nl_base.specs.declared.value.Dir.{Dir}
use Rattle.nl_base.specs.declared.value.Dir.TheVariants as dirs
use Rattle.edif_values.specs.declared.port.PortItem.{PortItem}
use Rattle.edif_values.specs.declared.port.PortItem.TheVariants as port_items

-- the direction that an item of a port tells, where it tells one
unfoldable pub told : PortItem → Option Dir
told (port_items.Direction d) = Some d
told (port_items.Property p) = None
told (port_items.Designator s) = None
told (port_items.Note n) = None

-- the directions that the items of a port tell
abbrev pub directions : List PortItem → List Dir
directions is = filter_map told is

-- the first of some directions, or both ways where there is none
abbrev pub first_or_inout : List Dir → Dir
first_or_inout [] = dirs.Inout
first_or_inout (d ∷ ds) = d

-- the direction of a port with these items, of which at most one tells it
unfoldable pub direction_of : List PortItem → Dir
direction_of is = first_or_inout (directions is)
