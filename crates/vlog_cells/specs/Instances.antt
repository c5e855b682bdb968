-- The instances of a module by the values that `defparam` gives them.
use Rattle.std.specs.Prelude.{ℕ, List, ◌++◌, map, filter, bytes_eq}
use Rattle.std.specs.Borrow.{Bor}
use Rattle.std.specs.List.{position_or_len}
use Rattle.net_hier.specs.declared.cells.HInst.{HInst}
use Rattle.net_hier.specs.declared.cells.HProp.{HProp}
use Rattle.vlog_design.specs.Design.{attr_props, param_props, param_value}
use Rattle.vlog_design.specs.Names.{Name}
use Rattle.vlog_values.specs.declared.statement.DefSet.{DefSet}
use Rattle.vlog_values.specs.declared.statement.Instances.{Instances}
use Rattle.vlog_values.specs.declared.statement.VInst.{VInst}
use Rattle.vlog_cells.specs.Groups.{under}

-- the property that a value by `defparam` is (12.2.1)
abbrev pub set_prop : DefSet → HProp
set_prop set = record { name = set.name; value = param_value set.value }

-- the values that are lent
abbrev pub sets_of : List (Bor DefSet) → List DefSet
sets_of = map (λ set. set.now)

-- the values for an instance among those that are kept
unfoldable pub sets_under : List (List ℕ × List (Bor DefSet)) → Name → List DefSet
sets_under found key = sets_of (under found key)

-- the values for an instance
abbrev pub sets_for : Name → List DefSet → List DefSet
sets_for key = filter (λ set. bytes_eq key set.instance)

-- the properties of an instance of a statement with these values by `defparam`
abbrev pub props_by : Instances → List DefSet → List HProp
props_by statement sets = attr_props statement.attrs ++ param_props statement.params ++ map set_prop sets

-- an instance of the cell of this number
abbrev pub instance_by : ℕ → Instances → List (List ℕ × List (Bor DefSet)) → VInst → HInst
instance_by cell statement found instance = record { name = instance.name; cell = cell; props = props_by statement (sets_under found instance.name) }

-- the instances of a statement, by the names of the modules
abbrev pub instances_by : List Name → List (List ℕ × List (Bor DefSet)) → Instances → List HInst
instances_by names found statement = map (instance_by (position_or_len (bytes_eq statement.module) names) statement found) statement.insts
