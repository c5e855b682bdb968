-- What is left of the cells of a design while those of the file are made.
use Rattle.std.specs.Prelude.{◌≡◌, ℕ, ◌≤◌, List, [], length, slice_get, Some}
use Rattle.net_hier.specs.declared.cells.HCell.{HCell}
use Rattle.edif_plans.specs.References.{ports_at}

-- a cell without what it is made of: its name and its ports, which it shows to other cells
abbrev pub shown_cell : HCell → HCell
shown_cell cell = record { name = cell.name; ports = cell.ports; instances = []; nets = []; joins = []; props = [] }

-- what is left of the cells where those of the first so many numbers of this order are made: each shows its ports, and those that are not yet made are as they were
pub record AreLeft (cells : List HCell) (order : List ℕ) (done : ℕ) (left : List HCell) : Type 0 where
  pub as_many : length left ≡ length cells
  pub same_ports : (number : ℕ) → ports_at left number ≡ ports_at cells number
  pub others : (place number : ℕ) → done ≤ place → slice_get order place ≡ Some number → slice_get left number ≡ slice_get cells number
