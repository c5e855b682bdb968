use Rattle.std.specs.Prelude.{◌≡◌, ◌+◌, ℕ, zero, suc, ◌≤◌, List, [], ◌∷◌, length, slice_get, slice_index, Option, Some, None}
use Rattle.net_hier.specs.Cells.{width_of}
use Rattle.net_hier.specs.Units.{port_bits}
use Rattle.net_hier.specs.Design.{IsCell}
use Rattle.net_hier.specs.declared.cells.HCell.{HCell}
use Rattle.net_hier.specs.declared.cells.HPort.{HPort}
use Rattle.std.proofs.Common.{Vec, Global, map}
use Rattle.flat_numbers.specs.Layout.{IsLayout}
use Rattle.flat_numbers.specs.Numbers.{IsBelow, bits_before}
use Rattle.flat_numbers.specs.declared.walk.Layout.{Layout}
use Rattle.flat_numbers.specs.declared.spots.Spot.{Spot}

-- the table has this number in a row
pub record HasNumber (rows : List (List ℕ)) (row place number : ℕ) : Type 0 where
  pub the_row : List ℕ
  pub is_row : slice_get rows row ≡ Some the_row
  pub is_there : slice_get the_row place ≡ Some number

-- how many instances a cell has, none where there is no cell
abbrev pub instances_of : Option HCell → ℕ
instances_of None = 0
instances_of (Some cell) = length cell.instances

-- how many instances the cells of the spots before this one have
abbrev pub instances_before : List HCell → List Spot → ℕ → ℕ
instances_before cells [] number = 0
instances_before cells (spot ∷ spots) zero = 0
instances_before cells (spot ∷ spots) (suc number) = instances_of (slice_get cells spot.cell) + instances_before cells spots number

-- where the rows of the spots begin, and where the last one ends, if each has a place for each instance of the spot's cell
pub record AreRowStarts (cells : List HCell) (spots : List Spot) (starts : List ℕ) : Type 0 where
  pub len : length starts ≡ length spots + 1
  pub each : (number : ℕ) → number ≤ length spots → slice_index starts number ≡ instances_before cells spots number

-- for each spot the spots of its cell's instances
abbrev pub AreBelows : List Spot → List (List ℕ) → Type 0
AreBelows spots rows = (outer instance inner : ℕ) → IsBelow spots outer instance inner → HasNumber rows outer instance inner

-- how many bits stand before each port of the cell, and before its nets
abbrev pub AreOffsetsOf : HCell → List ℕ → Type 0
AreOffsetsOf cell row = (port : ℕ) → port ≤ length cell.ports → slice_get row port ≡ Some (bits_before cell.ports port)

-- these for each cell
abbrev pub AreOffsets : List HCell → List (List ℕ) → Type 0
AreOffsets cells rows = (number : ℕ) (cell : HCell) → IsCell cells number cell → (row : List ℕ) × (slice_get rows number ≡ Some row) × AreOffsetsOf cell row

-- no cell has more port bits than the flat tools take
abbrev pub AreSmall : List HCell → Type 0
AreSmall cells = (number : ℕ) (cell : HCell) → IsCell cells number cell → port_bits cell ≤ 2000001

abbrev pub rows_in : List (Vec ℕ Global) → List (List ℕ)
rows_in rows = map (λ row. row.items) rows

-- the value is the first number of the spot, and what stands before, and the bit
pub record HasPlace (spots : List Spot) (bases : List ℕ) (offsets : List (List ℕ)) (number port bit value : ℕ) : Type 0 where
  pub spot : Spot
  pub is_spot : slice_get spots number ≡ Some spot
  pub base : ℕ
  pub is_base : slice_get bases number ≡ Some base
  pub offset : ℕ
  pub is_offset : HasNumber offsets spot.cell port offset
  pub is_value : value ≡ base + (offset + bit)

-- the tables of a design
pub record AreTables (cells : List HCell) (top count : ℕ) (layout : Layout) (belows offsets : List (List ℕ)) : Type 0 where
  pub is_layout : IsLayout cells top count layout
  pub are_belows : AreBelows layout.spots.items belows
  pub are_offsets : AreOffsets cells offsets

-- a cell with so few ports and bits
pub record HasFewBits (cell : HCell) : Type 0 where
  pub ports : length cell.ports ≤ 2000001
  pub bits : (port : ℕ) (the_port : HPort) → slice_get cell.ports port ≡ Some the_port → width_of the_port.range ≤ 2000001
