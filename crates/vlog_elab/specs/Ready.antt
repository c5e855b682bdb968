-- What is known of modules before their units are counted and their cells are made.
use Rattle.std.specs.Prelude.{◌≡◌, ◌≤◌, Bool, true, List, [], All, length, map}
use Rattle.std.specs.List.{AllByRecursion}
use Rattle.net_hier.specs.Valid.{Each, count_limit}
use Rattle.vlog_design.specs.Names.{Name, implicit_names, signals}
use Rattle.vlog_design.specs.Numbers.{HasNumbers}
use Rattle.vlog_design.specs.Rules.{declared_twice, too_wide, unequal_widths, unsized}
use Rattle.vlog_scopes.specs.Distinct.{AreDeclaredOnce, Distinct, module_names}
use Rattle.vlog_values.specs.Sizes.{module_size}
use Rattle.vlog_values.specs.Values.{IsModule}
use Rattle.vlog_values.specs.declared.module.Module.{Module}
use Rattle.vlog_shown.specs.Interfaces.{is_shown}

-- the module is small and, among these modules, breaks none of the rules on which its cell rests
pub record IsReady (modules : List Module) (m : Module) : Type 0 where
  pub value : IsModule m
  pub small : module_size m ≤ count_limit
  pub once : declared_twice m ≡ []
  pub equal : unequal_widths modules m ≡ []
  pub sized : unsized modules m ≡ []
  pub narrow : too_wide m ≡ []

-- the modules are few, each is such a one, and these are their names
pub record AreReady (names : List Name) (modules : List Module) : Type 0 where
  pub named : names ≡ map (λ m. m.name) modules
  pub few : length modules ≤ count_limit
  pub each : Each (IsReady modules) modules

-- the module is small, it declares no name twice and, where that is known, each of its nets, and the numbers of its ports and nets fit
pub record CanBeCell (is_declared : Bool) (m : Module) : Type 0 where
  pub value : IsModule m
  pub small : module_size m ≤ count_limit
  pub once : declared_twice m ≡ []
  pub declared : is_declared ≡ true → implicit_names m ≡ []
  pub numbers : All (λ signal. HasNumbers signal.slot) (signals m)

-- what is shown is few and small, its names differ and none of it declares a name twice; the modules that are shown can be cells
pub record CanHaveCells (is_declared : Bool) (shown modules : List Module) : Type 0 where
  pub few : length shown ≤ count_limit
  pub differ : Distinct (module_names shown)
  pub once : AreDeclaredOnce shown
  pub small : AllByRecursion (λ m. module_size m ≤ count_limit) shown
  pub fit : Each (λ m. is_shown shown m ≡ true → CanBeCell is_declared m) modules
