-- The instances of a module with the numbers of their modules (IEEE 1364-2005, 12.1).
use Rattle.std.specs.Prelude.{ℕ, List, [], ◌∷◌, map, flat_map, position, bytes_eq, Option, None, Some}
use Rattle.std.specs.Borrow.{Bor}
use Rattle.vlog_design.specs.Names.{Name, instance_statements}
use Rattle.vlog_design.specs.Rules.{statement_names}
use Rattle.vlog_values.specs.declared.module.Module.{Module}

-- an instance with the number of its module
abbrev pub Link : Type 0
Link = Name × ℕ

-- an instance with the number of its module, as the code keeps it
abbrev pub link_of : Bor (List ℕ) × ℕ → Link
link_of link = (link.0.now, link.1)

-- instances with the numbers of their modules, as the code keeps them
abbrev pub links_of : List (Bor (List ℕ) × ℕ) → List Link
links_of = map link_of

-- the instance with the number, where the module is there
abbrev pub linked : Name → Option ℕ → List Link
linked instance None = []
linked instance (Some number) = (instance, number) ∷ []

-- the instances whose modules are there, by the names of all modules
abbrev pub links_in : List Name → List (Name × Name) → List Link
links_in names = flat_map (λ pair. linked pair.0 (position (bytes_eq pair.1) names))

-- the instances of a module with the names of their modules
unfoldable pub instance_pairs : Module → List (Name × Name)
instance_pairs m = flat_map statement_names (instance_statements m)

-- the numbers of the modules of a module's instances, where these are there
abbrev pub numbers_in : List Name → Module → List ℕ
numbers_in names m = map (λ link. link.1) (links_in names (instance_pairs m))
