-- Names of which no two are the same.
use Rattle.std.specs.Prelude.{◌≡◌, ⊤, false, List, [], ◌∷◌, map}
use Rattle.vlog_design.specs.Names.{Name, Signal, has_name}
use Rattle.vlog_design.specs.Rules.{declared_twice}
use Rattle.vlog_values.specs.declared.module.Module.{Module}

-- no name stands in the list behind itself
abbrev pub Distinct : List Name → Type 0
Distinct [] = ⊤
Distinct (name ∷ names) = (has_name names name ≡ false) × Distinct names

-- the names of ports and nets
abbrev pub signal_names : List Signal → List Name
signal_names = map (λ signal. signal.name)

-- the names of modules
abbrev pub module_names : List Module → List Name
module_names = map (λ m. m.name)

-- no module declares a name twice
abbrev pub AreDeclaredOnce : List Module → Type 0
AreDeclaredOnce [] = ⊤
AreDeclaredOnce (m ∷ ms) = (declared_twice m ≡ []) × AreDeclaredOnce ms
