-- the classes of the numbers are the classes of the flat nodes
use Rattle.std.proofs.Common.{◌≡◌, ℕ, ◌<◌, ◌≤◌, ◌↔◌, inl, inr, List, arith}
use Rattle.flat_numbers.specs.Linked.{AreLabels, label}
use Rattle.flat_numbers.specs.declared.joins.NumberJoin.{NumberJoin}
use Rattle.net_hier.specs.Constants.{ConstantNames}
use Rattle.net_hier.specs.Design.{Design, IsCell}
use Rattle.net_hier.specs.Flat.{FlatNode, IsConnected}
use Rattle.net_hier.specs.Valid.{IsValid}
use Rattle.net_hier.specs.declared.cells.HCell.{HCell}
use Rattle.net_hier.specs.declared.nodes.Join.{Join}
use Rattle.flat_numbers.specs.Numbers.{AreBases, AreFlatJoins, AreLinks, IsNumber}
use Rattle.flat_numbers.specs.declared.spots.Spot.{Spot}
use Rattle.flat_numbers.proofs.NumberLaws.{constant_small, known, numbers_connected, owner}
use Rattle.flat_numbers.proofs.Places.{number_within, place_within}
use Rattle.flat_numbers.proofs.SpotLaws.{SpotFacts}

module _ (names : ConstantNames) (design : Design) (valid : IsValid design) (spots : List Spot) (facts : SpotFacts design.cells design.top spots) (base : ℕ → ℕ) (count : ℕ) (bases : AreBases design.cells spots base count) (room : 2 ≤ count) where
  -- the number of a flat node is below the count
  pub number_below : (x : FlatNode) (u : ℕ) → IsNumber design.cells spots base x u → u < count
  number_below x u is = elim (owner names design valid spots facts base count bases x u is) [
    | inl a ↦ omega (arith, a.u_is, constant_small a.value, room)
    | inr o ↦ omega (arith, o.u_is, number_within design.cells spots base count bases (known names design valid spots facts base count bases) o.number o.cell o.place o.of_cell (place_within o.cell o.node o.place o.is_place))
  ]

  module _ (links : ℕ → List Join) (are : (number : ℕ) (cell : HCell) → IsCell design.cells number cell → AreLinks design.cells cell (links number))
      (joins : List NumberJoin) (flat : AreFlatJoins names design.cells spots base links joins) where
    -- equal labels are connection
    pub labels_connected : (labels : List ℕ) → AreLabels count joins labels → (x y : FlatNode) (u v : ℕ) →
        IsNumber design.cells spots base x u → IsNumber design.cells spots base y v → (label labels u ≡ label labels v) ↔ IsConnected names design x y
    labels_connected labels are_labels x y u v hx hy =
        let s = are_labels.same u v (number_below x u hx) (number_below y v hy) in
        let t = numbers_connected names design valid spots facts base count bases links are joins flat x y u v hx hy in
        (λ e. t.0 (s.0 e), λ c. s.1 (t.1 c))
