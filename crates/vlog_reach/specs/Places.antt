-- Modules by the places of their names.
use Rattle.std.specs.Prelude.{ℕ, Bool, true, false, List, [], ◌∷◌, bytes_eq, flat_map, option_to_list, position}
use Rattle.vlog_design.specs.Names.{Name}
use Rattle.vlog_values.specs.declared.module.Module.{Module}

-- the places that these names have among some names
abbrev pub places_in : List Name → List Name → List ℕ
places_in among = flat_map (λ name. option_to_list (position (bytes_eq name) among))

-- the module, where it is marked
abbrev pub marked_one : Bool → Module → List Module
marked_one true m = m ∷ []
marked_one false m = []
