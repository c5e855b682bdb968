-- The files that are made of a design as a plan says.
use Rattle.std.specs.Prelude.{◌≡◌, ◌⊎◌, ℕ, ◌+◌, ◌++◌, Bool, List, [], ◌∷◌, length, map, slice_get, Some}
use Rattle.edif_values.specs.declared.name.NameDef.{NameDef}
use Rattle.edif_values.specs.declared.cell.Cell.{Cell}
use Rattle.edif_values.specs.declared.file.EdifFile.{EdifFile}
use Rattle.net_bits.specs.Classes.{AreClasses, ClassTable}
use Rattle.net_hier.specs.Cells.{IsConstantCell}
use Rattle.net_hier.specs.Constants.{ConstantNames, name_of_constant}
use Rattle.net_hier.specs.Design.{Design, IsCell, top_name}
use Rattle.net_hier.specs.Facts.{cell_props}
use Rattle.net_hier.specs.declared.cells.HCell.{HCell}
use Rattle.edif_written.specs.Naming.{name_for}
use Rattle.edif_spaces.specs.Spaces.{AreIdents, IsIdentFor}
use Rattle.edif_written.specs.Written.{file_of}
use Rattle.edif_plans.specs.AddedNames.{AreNamedFor}
use Rattle.edif_plans.specs.Made.{IsMadeCell, new_cell_for}
use Rattle.edif_plans.specs.Plans.{constant_number, head_at, head_of, number_of}
use Rattle.edif_plans.specs.References.{name_at}
use Rattle.edif_plans.specs.declared.plan.Plan.{Plan}
use Rattle.edif_plans.specs.Missing.{AreMissing, IsNeeded}

-- the cell of this number, behind so many new ones, is made of a cell of the design that stands for the constant
pub record IsOldAt (names : ConstantNames) (design : Design) (count : ℕ) (value : Bool) (number : ℕ) : Type 0 where
  pub place : ℕ
  pub old : ℕ
  pub is_placed : slice_get design.order place ≡ Some old
  pub cell : HCell
  pub is_cell : IsCell design.cells old cell
  pub is_constant : IsConstantCell names value cell
  pub is_number : number ≡ count + place

-- the names of the cells of the file: those of the new cells of these constants, and then of the cells of the design, in its order
abbrev pub names_of_cells : ConstantNames → Design → List Bool → List (List ℕ)
names_of_cells names design values = map (λ value. (name_of_constant names value).cell) values ++ map (name_at design.cells) design.order

-- The plan of the file: heads of the new cells, one for each of these constants, and then of what is made of the cells of the design, in its order. The cells have identifiers for their names,
-- and so have the ports of each. A constant that some cell needs has a new cell, or one that is made of a cell that stands for it.
pub record IsPlan (names : ConstantNames) (design : Design) (values : List Bool) (plan : Plan) : Type 0 where
  pub as_many : length plan.heads ≡ length values + length design.order
  pub idents : AreIdents (names_of_cells names design values) (map (λ head. head.cell) plan.heads)
  pub new_heads : (place : ℕ) (value : Bool) → slice_get values place ≡ Some value → AreIdents ((name_of_constant names value).port ∷ []) (head_at plan place).ports
  pub old_heads : (number : ℕ) (cell : HCell) → IsCell design.cells number cell → AreIdents (map (λ port. port.name) cell.ports) (head_of plan number).ports
  pub numbers : (place number : ℕ) → slice_get design.order place ≡ Some number → number_of plan number ≡ length values + place
  pub constants : (value : Bool) → IsNeeded design value → (slice_get values (constant_number plan value) ≡ Some value) ⊎ IsOldAt names design (length values) value (constant_number plan value)

-- what is made of the cell of this number in the design, under these names of the constants' cells
pub record IsMadeOf (names : ConstantNames) (design : Design) (plan : Plan) (number : ℕ) (made : Cell) : Type 0 where
  pub cell : HCell
  pub is_there : IsCell design.cells number cell
  pub classes : ClassTable
  pub are_classes : AreClasses cell classes
  pub is_made : IsMadeCell design.cells plan (head_of plan number) cell (cell_props design number cell) classes made
  pub are_named : AreNamedFor names cell.instances is_made.instances.added

-- the new cells of these constants, and then what is made of the cells of these numbers, each in order
pub record AreCells (names : ConstantNames) (design : Design) (plan : Plan) (values : List Bool) (numbers : List ℕ) (cells : List Cell) : Type 0 where
  pub as_many : length cells ≡ length values + length numbers
  pub new : (place : ℕ) (value : Bool) (made : Cell) → slice_get values place ≡ Some value → slice_get cells place ≡ Some made → made ≡ new_cell_for (head_at plan place) (name_of_constant names value)
  pub old : (place number : ℕ) (made : Cell) → slice_get numbers place ≡ Some number → slice_get cells (length values + place) ≡ Some made → IsMadeOf names design plan number made

-- the name is written alone in its name space
pub record IsAlone (name : List ℕ) (made : NameDef) : Type 0 where
  pub ident : List ℕ
  pub is_ident : IsIdentFor [] name ident
  pub is_name : made ≡ name_for ident name

-- The file has a new cell for each constant that is missing, the zero first, and then what is made of each cell of the design, in its order, as a plan says; its design is of what is made
-- of the top. Both are named after the top.
pub record IsPlannedFile (names : ConstantNames) (design : Design) (file : EdifFile) : Type 0 where
  pub values : List Bool
  pub are_missing : AreMissing names design values
  pub plan : Plan
  pub is_plan : IsPlan names design values plan
  pub cells : List Cell
  pub are_cells : AreCells names design plan values design.order cells
  pub name : NameDef
  pub design_name : NameDef
  pub is_name : IsAlone (top_name design.cells design.top) name
  pub is_design_name : IsAlone (top_name design.cells design.top) design_name
  pub is_file : file ≡ file_of name design_name cells (head_of plan design.top).cell
