-- the numbers of the nodes are below the count
use Rattle.std.proofs.Common.{◌≡◌, ℕ, ◌<◌, ◌≤◌, List, length, refl, slice_get, Some, arith}
use Rattle.net_hier.specs.Design.{Design, IsCell}
use Rattle.net_hier.specs.Flat.{taken_at}
use Rattle.net_hier.specs.Valid.{IsValid}
use Rattle.net_hier.specs.declared.cells.HCell.{HCell}
use Rattle.net_hier.specs.declared.nodes.Node.{Node}
use Rattle.flat_numbers.specs.Layout.{base_of}
use Rattle.flat_numbers.specs.Numbers.{CellOf, NodeNumber}
use Rattle.flat_numbers.specs.Tables.{AreTables}
use Rattle.flat_numbers.specs.declared.spots.Spot.{Spot}
use Rattle.flat_numbers.specs.declared.walk.Layout.{Layout}
use Rattle.flat_numbers.proofs.Finding.{any_names}
use Rattle.flat_numbers.proofs.PathSpots.{spot_has_path}
use Rattle.flat_numbers.proofs.Places.{base_least}
use Rattle.flat_numbers.proofs.SpotLaws.{SpotFacts, listed_cells, spot_facts}
use Rattle.flat_numbers.proofs.Whole.{number_below}

module _ (design : Design) (count : ℕ) (layout : Layout) (belows offsets : List (List ℕ)) (tables : AreTables design.cells design.top count layout belows offsets) where
  known : (number : ℕ) (spot : Spot) → slice_get layout.spots.items number ≡ Some spot → (cell : HCell) × IsCell design.cells spot.cell cell
  known number spot e = listed_cells tables.is_layout.are_spots number spot e

  pub room : 2 ≤ layout.count
  room = let l = base_least design.cells layout.spots.items (base_of layout.bases.items layout.count) layout.count tables.is_layout.are_bases known (length layout.spots.items) (omega arith) in omega (arith, l, tables.is_layout.are_bases.last)

  pub node_below : IsValid design → (number : ℕ) (cell : HCell) (node : Node) (u : ℕ) → CellOf design.cells layout.spots.items number cell → NodeNumber design.cells layout.spots.items (base_of layout.bases.items layout.count) number cell node u → u < layout.count
  node_below valid number cell node u of n =
      let facts : SpotFacts design.cells design.top layout.spots.items = spot_facts design.cells design.top layout.spots.items tables.is_layout.are_spots in
      let (path, at) = spot_has_path design valid layout.spots.items facts number of.spot of.is_spot in
      number_below any_names design valid layout.spots.items facts (base_of layout.bases.items layout.count) layout.count tables.is_layout.are_bases room (taken_at path node) u
      (record { path = path; number = number; at = at; cell = cell; of_cell = of; node = node; x_is = refl; node_number = n })
