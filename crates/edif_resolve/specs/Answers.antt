-- What `resolve` answers.
use Rattle.std.specs.Prelude.{◌≡◌, ℕ, ◌<◌, List, [], Some, None, slice_get}
use Rattle.net_hier.specs.Design.{Design}
use Rattle.net_hier.specs.Units.{units}
use Rattle.net_hier.specs.Valid.{IsHier, unit_limit}
use Rattle.net_hier.specs.declared.cells.HCell.{HCell}
use Rattle.net_hier.specs.declared.cells.HProp.{HProp}
use Rattle.edif_values.specs.declared.file.EdifFile.{EdifFile}
use Rattle.edif_design.specs.Design.{edif_design}
use Rattle.edif_design.specs.FileRules.{first_E, recursion_refusals}
use Rattle.edif_resolve.specs.declared.answer.ResolveError.{ResolveError}
use Rattle.edif_resolve.specs.declared.answer.ResolveError.TheVariants.{Refused, TooBig, NoMemory}

-- the file breaks no rule, and the design is that of the file, within the limits of a design
pub record IsDesignOf (file : EdifFile) (design : Design) : Type 0 where
  pub no_refusal : first_E file ≡ None
  pub same_cells : design.cells ≡ (edif_design file).cells
  pub same_top : design.top ≡ (edif_design file).top
  pub same_props : design.props ≡ (edif_design file).props
  pub is_hier : IsHier design

-- the file has a design
pub record HasDesign (file : EdifFile) : Type 0 where
  pub design : Design
  pub is_design : IsDesignOf file design

-- the file breaks no rule, and its design has this many units, which pass the limit
pub record IsTooBigFor (file : EdifFile) (count : ℕ) : Type 0 where
  pub no_refusal : first_E file ≡ None
  pub is_count : count ≡ units (edif_design file).cells
  pub passes : unit_limit < count

-- why the file has no design; want of memory has no cause
abbrev pub IsFaultOf : EdifFile → ResolveError → Type 0
IsFaultOf file (Refused refusal) = first_E file ≡ Some refusal
IsFaultOf file (TooBig count) = IsTooBigFor file count
IsFaultOf file NoMemory = Unit {0}

-- no cell of these reaches itself, and the design is of them, within the limits of a design
pub record IsDesignFrom (cells : List HCell) (top : ℕ) (props : List HProp) (design : Design) : Type 0 where
  pub no_recursion : recursion_refusals cells ≡ []
  pub same_cells : design.cells ≡ cells
  pub same_top : design.top ≡ top
  pub same_props : design.props ≡ props
  pub is_hier : IsHier design

-- no cell of these reaches itself, and they have this many units, which pass the limit
pub record IsTooBigFrom (cells : List HCell) (count : ℕ) : Type 0 where
  pub no_recursion : recursion_refusals cells ≡ []
  pub is_count : count ≡ units cells
  pub passes : unit_limit < count

-- why cells that fit are no design; want of memory has no cause
abbrev pub IsFaultFrom : List HCell → ResolveError → Type 0
IsFaultFrom cells (Refused refusal) = slice_get (recursion_refusals cells) 0 ≡ Some refusal
IsFaultFrom cells (TooBig count) = IsTooBigFrom cells count
IsFaultFrom cells NoMemory = Unit {0}
