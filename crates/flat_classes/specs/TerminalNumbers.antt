use Rattle.std.specs.Prelude.{◌≡◌, ◌↔◌, ℕ, ◌+◌, ◌<◌, List, Some, length, slice_get, slice_range, sum_by}
use Rattle.flat_numbers.specs.Linked.{label}
use Rattle.net_hier.specs.Cells.{IsPortBit, width_of}
use Rattle.net_hier.specs.declared.cells.HCell.{HCell}
use Rattle.net_hier.specs.declared.cells.HPort.{HPort}
use Rattle.net_hier.specs.Constants.{ConstantNames}
use Rattle.net_hier.specs.Design.{Design}
use Rattle.net_hier.specs.Flat.{FlatNode, IsConnected}
use Rattle.flat_numbers.specs.Numbers.{CellOf, IsNumber, bits_before}
use Rattle.flat_classes.specs.Terminals.{ports_at}
use Rattle.flat_classes.specs.declared.flat.Terminal.{Terminal}
use Rattle.flat_classes.specs.declared.flat.Terminal.TheVariants.{Port, Pin, Zero, One}
use Rattle.flat_numbers.specs.declared.spots.Spot.{Spot}

-- the number of a terminal's node
pub data TerminalNumber (cells : List HCell) (spots : List Spot) (base : ℕ → ℕ) : Terminal → ℕ → Type 0 where
  zero_number : TerminalNumber cells spots base Zero 0
  one_number : TerminalNumber cells spots base One 1
  port_number : {cell : HCell} {port bit : ℕ} → CellOf cells spots 0 cell → IsPortBit cell port bit → TerminalNumber cells spots base (Port port bit) (base 0 + (bits_before cell.ports port + bit))
  pin_number : {spot : ℕ} {cell : HCell} {port bit : ℕ} → CellOf cells spots spot cell → IsPortBit cell port bit → TerminalNumber cells spots base (Pin spot port bit) (base spot + (bits_before cell.ports port + bit))

-- each terminal has a number
abbrev pub AreNumbered : List HCell → List Spot → (ℕ → ℕ) → List Terminal → Type 0
AreNumbered cells spots base terminals = (place : ℕ) (terminal : Terminal) → slice_get terminals place ≡ Some terminal → (u : ℕ) × TerminalNumber cells spots base terminal u

-- the labels of the terminals' numbers
pub record HaveLabels (cells : List HCell) (spots : List Spot) (base : ℕ → ℕ) (labels : List ℕ) (terminals : List Terminal) (found : List ℕ) : Type 0 where
  pub len : length found ≡ length terminals
  pub are : (place : ℕ) (terminal : Terminal) (u : ℕ) → slice_get terminals place ≡ Some terminal → TerminalNumber cells spots base terminal u → slice_get found place ≡ Some (label labels u)

-- the labels of the port bits of the cell at a spot: their numbers follow one another from the spot's first number on
abbrev pub port_labels : List HCell → List Spot → (ℕ → ℕ) → List ℕ → ℕ → List ℕ
port_labels cells spots base labels spot = slice_range labels (base spot) (base spot + sum_by (λ (port : HPort). width_of port.range) (ports_at cells spots spot))

-- equal labels of numbers are connection
pub record AreFlatLabels (names : ConstantNames) (design : Design) (spots : List Spot) (base : ℕ → ℕ) (count : ℕ) (labels : List ℕ) : Type 0 where
  pub len : length labels ≡ count
  pub below : (u : ℕ) → u < count → label labels u < count
  pub connected : (x y : FlatNode) (u v : ℕ) → IsNumber design.cells spots base x u → IsNumber design.cells spots base y v → (label labels u ≡ label labels v) ↔ IsConnected names design x y
