-- the cells of a flattened design
use Rattle.std.proofs.Common.{◌≤◌, not, eqb, length, arith}
use Rattle.flat_classes.specs.FlatSums.{IsFewFlat}
use Rattle.flat_classes.specs.Terminals.{AreFlatClasses, FlatValue}
use Rattle.net_flatten_cells.proofs.OrderLaws.{numbers_few}
use Rattle.net_flatten_cells.proofs.SizeLaws.{filtered_few, leaves_few, spots_few}
use Rattle.net_flatten_rules.specs.FlatDesign.{inner, leaf_cells}
use Rattle.net_hier.specs.Constants.{ConstantNames}
use Rattle.net_hier.specs.Design.{Design}
use Rattle.net_hier.specs.Valid.{IsHier}

module _ (names : ConstantNames) (design : Design) (flat : FlatValue) (are : AreFlatClasses names design flat) (hier : IsHier design) (few : IsFewFlat design) where
  -- there are few leaves below the top
  pub inner_few : length (inner flat.leaves) ≤ 2000000
  inner_few =
      let s = spots_few design hier.valid few flat.spots are.are_spots in
      let l = leaves_few names design.cells flat.spots flat.leaves are.are_leaves in
      let f = filtered_few (λ leaf. not (eqb leaf 0)) flat.leaves in
      omega (arith, s, l, f)

  -- and few cells at them
  pub cells_few : length (leaf_cells design.order flat.spots (inner flat.leaves)) ≤ 268435456
  cells_few =
      let n = numbers_few design hier.valid flat.spots (inner flat.leaves) in
      let c = hier.few_parts.few_cells in
      omega (arith, n, c)
