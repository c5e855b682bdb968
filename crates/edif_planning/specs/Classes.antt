-- The classes of connected nodes of all cells of a design.
use Rattle.std.specs.Prelude.{◌≡◌, ℕ, List, length, slice_get, Some}
use Rattle.net_bits.specs.Classes.{AreClasses, ClassTable}
use Rattle.net_hier.specs.Design.{IsCell}
use Rattle.net_hier.specs.declared.cells.HCell.{HCell}

-- for each cell its classes
pub record AreAllClasses (cells : List HCell) (all : List ClassTable) : Type 0 where
  pub as_many : length all ≡ length cells
  pub each : (number : ℕ) (cell : HCell) (classes : ClassTable) → IsCell cells number cell → slice_get all number ≡ Some classes → AreClasses cell classes
