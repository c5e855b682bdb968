-- What a module ties is the same by what all modules show.
use Rattle.std.proofs.Common.{◌≡◌, ℕ, ◌+◌, List, [], ◌∷◌, ◌++◌, map, sum_by, Option, Some, None, refl, ap, ◌∙◌}
use Rattle.std.specs.Prelude.{option_map}
use Rattle.std.specs.Option.{option_map_or}
use Rattle.vlog_design.specs.Design.{instance_count}
use Rattle.vlog_design.specs.Names.{signals}
use Rattle.vlog_design.specs.Reach.{module_named}
use Rattle.vlog_ties.specs.Ties.{Tied, instance_ties, instances_ties, item_ties, module_ties, most_joins, pin_of, tied_most, ties_from}
use Rattle.vlog_values.specs.declared.module.ItemV.{ItemV}
use Rattle.vlog_values.specs.declared.module.ItemV.TheVariants as items
use Rattle.vlog_values.specs.declared.module.Module.{Module}
use Rattle.vlog_values.specs.declared.statement.VInst.{VInst}
use Rattle.vlog_shown.specs.Interfaces.{interface}
use Rattle.vlog_shown.proofs.Showing.{connections_same, module_shown}

instance_same : (below : Module) (number : ℕ) (instance : VInst) → instance_ties (interface below) number instance ≡ instance_ties below number instance
instance_same below number instance = ap (map (pin_of instance.name number)) (connections_same below instance.conns)

instances_same : (below : Module) (number : ℕ) (insts : List VInst) → instances_ties (interface below) number insts ≡ instances_ties below number insts
unfolding instances_ties
instances_same below number [] = refl
instances_same below number (instance ∷ rest) = λ j. instance_same below number instance j ++ instances_same below (number + 1) rest j

named_same : (number : ℕ) (insts : List VInst) (o : Option Module) → option_map_or (λ below. instances_ties below number insts) (option_map interface o) [] ≡ option_map_or (λ below. instances_ties below number insts) o []
named_same number insts None = refl
named_same number insts (Some below) = instances_same below number insts

module _ (ms : List Module) where
  abbrev shown : List Module
  shown = map interface ms

  item_same : (number : ℕ) (item : ItemV) → item_ties shown number item ≡ item_ties ms number item
  unfolding item_ties
  item_same number (items.Instances statement) =
      ap (λ o. option_map_or (λ below. instances_ties below number statement.insts) o []) (module_shown ms statement.module)
      ∙ named_same number statement.insts (module_named ms statement.module)
  item_same number (items.Port decl) = refl
  item_same number (items.Net decl) = refl
  item_same number (items.Param decl) = refl
  item_same number (items.Assign statement) = refl
  item_same number (items.Defparam statement) = refl

  from_same : (number : ℕ) (those : List ItemV) → ties_from shown number those ≡ ties_from ms number those
  unfolding ties_from
  from_same number [] = refl
  from_same number (item ∷ those) = λ j. item_same number item j ++ from_same (number + instance_count item) those j

  pub ties_same : (m : Module) → module_ties shown m ≡ module_ties ms m
  unfolding module_ties
  ties_same m = from_same 0 m.items

  most_same : (m : Module) → most_joins shown m ≡ most_joins ms m
  unfolding most_joins
  most_same m = ap (sum_by (tied_most (signals m))) (ties_same m)

  -- and so are the bits of all left sides
  pub all_most_same : (those : List Module) → sum_by (most_joins shown) those ≡ sum_by (most_joins ms) those
  all_most_same those = λ j. sum_by (λ m. most_same m j) those
