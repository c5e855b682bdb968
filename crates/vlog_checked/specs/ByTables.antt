-- What is seen of modules by the tables of their names.
use Rattle.std.specs.Prelude.{◌≡◌, ◌-◌, ◌^◌, true, List, [], min, sum_by}
use Rattle.std.specs.List.{AllByRecursion}
use Rattle.vlog_design.specs.Names.{implicit_names}
use Rattle.vlog_design.specs.Rules.{bad_selects, other_ranges, too_wide, unequal_widths, unknown_names, unsized}
use Rattle.vlog_ties.specs.Ties.{module_bits, most_joins}
use Rattle.vlog_values.specs.declared.module.Module.{Module}
use Rattle.vlog_checked.specs.declared.looks.Look.{Look}

-- the names, the selects, the widths and the ranges of the module break no rule
pub record IsFreeAlone (m : Module) : Type 0 where
  pub known_names : unknown_names m ≡ []
  pub good_selects : bad_selects m ≡ []
  pub narrow : too_wide m ≡ []
  pub one_range : other_ranges m ≡ []

-- and the two sides of its connections and assignments break none either, among these modules
pub record IsFree (modules : List Module) (m : Module) : Type 0 where
  pub alone : IsFreeAlone m
  pub equal_widths : unequal_widths modules m ≡ []
  pub sized : unsized modules m ≡ []

-- what is seen of those modules, among all modules: that each is free, where that is said, their bits, and, where it is said, that a
-- declaration declares each of their nets
pub record AreLooked (modules those : List Module) (look : Look) : Type 0 where
  pub free : look.is_free ≡ true → AllByRecursion (IsFree modules) those
  pub most_is : look.most ≡ min (2 ^ 64 - 1) (sum_by (most_joins modules) those)
  pub bits_is : look.bits ≡ min (2 ^ 64 - 1) (sum_by module_bits those)
  pub declared : look.is_declared ≡ true → AllByRecursion (λ m. implicit_names m ≡ []) those
