-- Modules of which tables can be made.
use Rattle.std.specs.Prelude.{List, length, ◌<◌, ◌≤◌, ◌^◌}
use Rattle.std.specs.List.{AllByRecursion}
use Rattle.vlog_scopes.specs.Distinct.{AreDeclaredOnce, Distinct, module_names}
use Rattle.vlog_values.specs.Sizes.{module_size}
use Rattle.vlog_values.specs.Values.{IsModule}
use Rattle.vlog_values.specs.declared.module.Module.{Module}

-- the modules are few and small, their names differ, and none declares a name twice
pub record CanHaveTables (modules : List Module) : Type 0 where
  pub differ : Distinct (module_names modules)
  pub once : AreDeclaredOnce modules
  pub valid : AllByRecursion IsModule modules
  pub small : AllByRecursion (λ m. module_size m ≤ 268435456) modules
  pub few : length modules < 2 ^ 32
