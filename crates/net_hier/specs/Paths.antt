use Rattle.std.specs.Prelude.{◌≡◌, ℕ, List, [], ◌∷◌, slice_get, Some}
use Rattle.net_hier.specs.Cells.{IsAnyConstantCell, IsLeaf}
use Rattle.net_hier.specs.Constants.{ConstantNames}
use Rattle.net_hier.specs.Design.{Design, IsCell}
use Rattle.net_hier.specs.declared.cells.HCell.{HCell}
use Rattle.net_hier.specs.declared.cells.HInst.{HInst}

-- the names of the instances that lead from the top to a place, the innermost first
abbrev pub Path : Type 0
Path = List (List ℕ)

-- the cell of one number has an instance of this name, whose cell has the other number
pub record HasInstance (cells : List HCell) (outer : ℕ) (name : List ℕ) (inner : ℕ) : Type 0 where
  pub cell : HCell
  pub is_cell : IsCell cells outer cell
  pub number : ℕ
  pub instance : HInst
  pub is_there : slice_get cell.instances number ≡ Some instance
  pub is_named : instance.name ≡ name
  pub is_of : instance.cell ≡ inner

-- the number of the cell to which the path leads from the top
abbrev pub LeadsTo : List HCell → ℕ → Path → ℕ → Type 0
LeadsTo cells top [] number = number ≡ top
LeadsTo cells top (name ∷ path) number = (outer : ℕ) × LeadsTo cells top path outer × HasInstance cells outer name number

-- the cell to which the path leads
pub record CellAt (design : Design) (path : Path) (cell : HCell) : Type 0 where
  pub number : ℕ
  pub leads : LeadsTo design.cells design.top path number
  pub is_cell : IsCell design.cells number cell

-- the path leads to a leaf that is no constant cell
pub record LeafAt (names : ConstantNames) (design : Design) (path : Path) (cell : HCell) : Type 0 where
  pub at : CellAt design path cell
  pub is_leaf : IsLeaf cell
  pub no_constant : ¬ IsAnyConstantCell names cell
