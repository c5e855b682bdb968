-- The numbers of the cells of a design in a file, and what heads name.
use Rattle.std.specs.Prelude.{◌≡◌, ℕ, ◌+◌, List, [], ◌∷◌, Bool, length, map, slice_get, get_or, Some}
use Rattle.net_hier.specs.Constants.{ConstantNames, name_of_constant}
use Rattle.net_hier.specs.Design.{Design}
use Rattle.net_hier.specs.declared.cells.HCell.{HCell}
use Rattle.edif_spaces.specs.Spaces.{AreIdents}
use Rattle.edif_plans.specs.References.{name_at, ports_at}
use Rattle.edif_plans.specs.declared.head.Head.{Head}

-- each cell of the design has its place in the order, behind so many new cells
pub record AreNumbers (design : Design) (count : ℕ) (numbers : List ℕ) : Type 0 where
  pub as_many : length numbers ≡ length design.cells
  pub each : (place number : ℕ) → slice_get design.order place ≡ Some number → get_or numbers number 0 ≡ count + place

-- the name of a cell and those of its ports
pub record CellNames : Type 0 where
  pub cell : List ℕ
  pub ports : List (List ℕ)

abbrev pub names_with : List ℕ → List (List ℕ) → CellNames
names_with cell ports = record { cell = cell; ports = ports }

-- those of a new cell, and of the cell of this number
abbrev pub new_names : ConstantNames → Bool → CellNames
new_names names value = names_with (name_of_constant names value).cell ((name_of_constant names value).port ∷ [])

abbrev pub old_names : List HCell → ℕ → CellNames
old_names cells number = names_with (name_at cells number) (map (λ port. port.name) (ports_at cells number))

-- heads of cells and ports of these names, and the name space of the cells
pub record AreHeads (wanted : List CellNames) (space : List (List ℕ)) (heads : List Head) : Type 0 where
  pub as_many : length heads ≡ length wanted
  pub is_space : space ≡ map (λ head. head.cell) heads
  pub idents : AreIdents (map (λ names. names.cell) wanted) space
  pub ports : (place : ℕ) (names : CellNames) (head : Head) → slice_get wanted place ≡ Some names → slice_get heads place ≡ Some head → AreIdents names.ports head.ports
