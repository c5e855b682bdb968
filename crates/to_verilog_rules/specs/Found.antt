-- What is found of the names of a design.
use Rattle.std.specs.Prelude.{◌≡◌, Bool, ◌&&◌, List, [], ◌∷◌, map, filter, Option, option_map}
use Rattle.net_hier.specs.declared.cells.HProp.{HProp}
use Rattle.vlog_design.specs.Names.{Name}
use Rattle.vlog_design.specs.Rules.{Objects, first_of}
use Rattle.to_verilog_rules.specs.Rules.{is_boolean}
use Rattle.to_verilog_rules.specs.declared.flags.Flagged.{Flagged}
use Rattle.to_verilog_rules.specs.declared.unwritable.Unwritable.{Unwritable}

-- the names of an object whose name cannot be written
abbrev pub object_of : Unwritable → List Name
object_of found = found.kind.now ∷ found.name.now ∷ []

-- it is the first of the objects
abbrev pub IsFirst : Objects → Option Unwritable → Type 0
IsFirst objects found = option_map object_of found ≡ first_of objects

-- the names of a property that is to be a parameter
abbrev pub flag_names : Flagged → List Name
flag_names found = found.instance.now ∷ found.property.now ∷ []

-- a property with the name of a parameter and a boolean as its value
abbrev pub is_flag : (Name → Bool) → HProp → Bool
is_flag is_param prop = is_boolean prop.value && is_param prop.name

-- the names of those
abbrev pub flagged_names : (Name → Bool) → List HProp → List Name
flagged_names is_param props = map (λ prop. prop.name) (filter (is_flag is_param) props)
