-- Which modules of a Verilog file are reached, as a relation (IEEE 1364-2005, 12.1).
use Rattle.std.specs.Prelude.{◌≡◌, ℕ, suc, ◌<◌, List, [], ◌∷◌, length, flat_map, Some}
use Rattle.net_graph.specs.Graph.{IsReached}
use Rattle.vlog_design.specs.Names.{Name, instance_statements}
use Rattle.vlog_design.specs.Reach.{module_place, modules_below}
use Rattle.vlog_design.specs.Rules.{Objects, statement_names}
use Rattle.vlog_values.specs.declared.module.Module.{Module}

-- these are the items, in order, at whose numbers the predicate holds, where the first item has the number n
pub data AreThose {A : Type 0} (P : ℕ → Type 0) : ℕ → List A → List A → Type 0 where
  no_more : {n : ℕ} → AreThose P n [] []
  that : {n : ℕ} {x : A} {xs ys : List A} → P n → AreThose P (suc n) xs ys → AreThose P n (x ∷ xs) (x ∷ ys)
  not_that : {n : ℕ} {x : A} {xs ys : List A} → ¬ P n → AreThose P (suc n) xs ys → AreThose P n (x ∷ xs) ys

-- instances lead down from the module of the one number to that of the other, or it is the same
abbrev pub IsUnder : List Module → ℕ → ℕ → Type 0
IsUnder modules start number = (start < length modules) × IsReached (modules_below modules) start number

-- instances lead down from the module of this name to that of this number, or it is the same
abbrev pub IsReachedFrom : List Module → Name → ℕ → Type 0
IsReachedFrom modules from number = (start : ℕ) × (module_place modules from ≡ Some start) × IsReached (modules_below modules) start number

-- instances lead down from the module of the one name to that of the other, or it is the same
abbrev pub Reaches : List Module → Name → Name → Type 0
Reaches modules from to = (number : ℕ) × (module_place modules to ≡ Some number) × IsReachedFrom modules from number

-- the instances of a module in order, each with the name of its module
abbrev pub named_instances : Module → List (Name × Name)
named_instances m = flat_map statement_names (instance_statements m)

-- of some instances, the first whose module reaches this one is refused by its name, and nothing where there is none
pub data IsFirstOf (modules : List Module) (to : Name) : List (Name × Name) → Objects → Type 0 where
  none_closes : IsFirstOf modules to [] []
  closes : {instance : Name × Name} {rest : List (Name × Name)} → Reaches modules instance.1 to → IsFirstOf modules to (instance ∷ rest) ((instance.0 ∷ []) ∷ [])
  does_not : {instance : Name × Name} {rest : List (Name × Name)} {objects : Objects} → ¬ Reaches modules instance.1 to → IsFirstOf modules to rest objects → IsFirstOf modules to (instance ∷ rest) objects

-- the first instance of a module whose module is that module or reaches it
abbrev pub IsFirstClosing : List Module → Module → Objects → Type 0
IsFirstClosing modules m objects = IsFirstOf modules m.name (named_instances m) objects
