-- What holds of the instances of a design holds of those that its spots are.
use Rattle.std.proofs.Common.{ℕ, List, IfSome, slice_get}
use Rattle.std.specs.List.{AllByRecursion}
use Rattle.std.specs.Option.{option_and_then}
use Rattle.edif_design_laws.proofs.Lists.{at_place}
use Rattle.flat_numbers.specs.declared.spots.Spot.{Spot}
use Rattle.flat_classes.specs.Ways.{instance_of}
use Rattle.net_flatten_fits.proofs.Lists.{then_good, then_such}
use Rattle.net_flatten_rules.specs.Joined.{instance_at}
use Rattle.net_hier.specs.declared.cells.HCell.{HCell}
use Rattle.net_hier.specs.declared.cells.HInst.{HInst}

module _ (Good : HInst → Type 0) (cells : List HCell) (each : AllByRecursion (λ (cell : HCell). AllByRecursion Good cell.instances) cells) (spots : List Spot) where
  of_spot : (spot : Spot) → IfSome (instance_of cells spots spot) Good
  of_spot spot = then_good Good (λ (above : Spot). option_and_then (λ (cell : HCell). slice_get cell.instances spot.instance) (slice_get cells above.cell))
      (λ above. then_such (λ (cell : HCell). AllByRecursion Good cell.instances) Good (λ (cell : HCell). slice_get cell.instances spot.instance)
      (λ cell all. at_place Good cell.instances spot.instance all) (slice_get cells above.cell) (at_place (λ (cell : HCell). AllByRecursion Good cell.instances) cells above.cell each))
      (slice_get spots spot.parent)

  pub instance_good : (number : ℕ) → IfSome (instance_at cells spots number) Good
  instance_good number = then_good Good (instance_of cells spots) of_spot (slice_get spots number)
