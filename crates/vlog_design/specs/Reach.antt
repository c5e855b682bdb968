-- The modules of a file that are reached from the top (IEEE 1364-2005, 12.1).
use Rattle.std.specs.Prelude.{ℕ, Bool, true, false, List, [], ◌∷◌, map, find, flat_map, bytes_eq, position, option_to_list, Option}
use Rattle.std.specs.List.{position_or_len}
use Rattle.net_graph.specs.Marks.{is_marked, marks_of}
use Rattle.vlog_design.specs.Names.{Name, instance_statements}
use Rattle.vlog_values.specs.declared.module.Module.{Module}
use Rattle.vlog_values.specs.declared.module.VlogFile.{VlogFile}
use Rattle.vlog_values.specs.declared.statement.Instances.{Instances}

-- the module of this name
unfoldable pub module_named : List Module → Name → Option Module
module_named modules name = find (λ m. bytes_eq name m.name) modules

-- the number of the module of this name, or how many modules there are where there is none
unfoldable pub module_number : List Module → Name → ℕ
module_number modules name = position_or_len (λ m. bytes_eq name m.name) modules

-- for each instance of a statement the name of its module
abbrev pub statement_modules : Instances → List Name
statement_modules statement = map (λ instance. statement.module) statement.insts

-- for each instance of a module the name of its module
unfoldable pub instance_modules : Module → List Name
instance_modules m = flat_map statement_modules (instance_statements m)

-- the number of the module of this name, where it is there
abbrev pub module_place : List Module → Name → Option ℕ
module_place modules name = position (λ m. bytes_eq name m.name) modules

-- the numbers of the modules of a module's instances, where these are there
abbrev pub numbers_below : List Module → Module → List ℕ
numbers_below modules m = flat_map (λ name. option_to_list (module_place modules name)) (instance_modules m)

-- below each module stand the modules of its instances
unfoldable pub modules_below : List Module → List (List ℕ)
modules_below modules = map (numbers_below modules) modules

-- the items that are marked
abbrev pub marked : {A : Type 0} → List Bool → List A → List A
marked [] items = []
marked (mark ∷ marks) [] = []
marked (true ∷ marks) (item ∷ items) = item ∷ marked marks items
marked (false ∷ marks) (item ∷ items) = marked marks items

-- the modules that instances lead to from the top, and the top, in file order
unfoldable pub reached : VlogFile → Name → List Module
reached file top = marked (marks_of (modules_below file.modules) (module_number file.modules top)) file.modules

-- instances lead from the one module down to the other, or it is the same
unfoldable pub reaches : List Module → Name → Name → Bool
reaches modules from to = is_marked (marks_of (modules_below modules) (module_number modules from)) (module_number modules to)
