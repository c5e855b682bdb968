-- What `elaborate` answers.
use Rattle.std.specs.Prelude.{◌≡◌, ℕ, ◌<◌, ◌≤◌, Bool, true, List, [], Some, None, map}
use Rattle.std.specs.List.{AllByRecursion}
use Rattle.net_hier.specs.Design.{Design}
use Rattle.net_hier.specs.Units.{units}
use Rattle.net_hier.specs.Valid.{IsHier, unit_limit}
use Rattle.net_hier.specs.declared.cells.HCell.{HCell}
use Rattle.vlog_design.specs.Design.{vlog_design}
use Rattle.vlog_design.specs.Names.{Name, implicit_names}
use Rattle.vlog_design.specs.Reach.{module_number, reached}
use Rattle.vlog_design.specs.Rules.{first_G, refusals}
use Rattle.vlog_values.specs.declared.module.Module.{Module}
use Rattle.vlog_values.specs.declared.module.VlogFile.{VlogFile}
use Rattle.vlog_shown.specs.Interfaces.{interface}
use Rattle.vlog_elab.specs.Units.{cells_from}
use Rattle.vlog_elab.specs.declared.answer.ResolveError.{ResolveError}
use Rattle.vlog_elab.specs.declared.answer.ResolveError.TheVariants.{Refused, TooBig, NoMemory}

-- the file breaks no rule under this top, and the design is that of the file, within the limits of a design
pub record IsDesignOf (file : VlogFile) (top : Name) (design : Design) : Type 0 where
  pub no_refusal : first_G file top ≡ None
  pub same_cells : design.cells ≡ (vlog_design file top).cells
  pub same_top : design.top ≡ (vlog_design file top).top
  pub same_props : design.props ≡ (vlog_design file top).props
  pub is_hier : IsHier design

-- the file has a design under this top
pub record HasDesign (file : VlogFile) (top : Name) : Type 0 where
  pub design : Design
  pub is_design : IsDesignOf file top design

-- the file breaks no rule under this top, and its design has this many units, which pass the limit
pub record IsTooBigFor (file : VlogFile) (top : Name) (count : ℕ) : Type 0 where
  pub no_refusal : first_G file top ≡ None
  pub is_count : count ≡ units (vlog_design file top).cells
  pub passes : unit_limit < count

-- why the file has no design under this top; want of memory has no cause
abbrev pub IsFaultOf : VlogFile → Name → ResolveError → Type 0
IsFaultOf file top (Refused refusal) = first_G file top ≡ Some refusal
IsFaultOf file top (TooBig count) = IsTooBigFor file top count
IsFaultOf file top NoMemory = Unit {0}

-- the design is of these cells and this top, within the limits of a design
pub record IsDesignFrom (cells : List HCell) (top : ℕ) (design : Design) : Type 0 where
  pub same_cells : design.cells ≡ cells
  pub same_top : design.top ≡ top
  pub same_props : design.props ≡ []
  pub is_hier : IsHier design

-- these cells have this many units, which pass the limit
pub record IsTooBigFrom (cells : List HCell) (count : ℕ) : Type 0 where
  pub is_count : count ≡ units cells
  pub passes : unit_limit < count

-- why cells that fit and of which none reaches itself are no design; want of memory has no cause
abbrev pub IsFaultFrom : List HCell → ResolveError → Type 0
IsFaultFrom cells (Refused refusal) = ⊥
IsFaultFrom cells (TooBig count) = IsTooBigFrom cells count
IsFaultFrom cells NoMemory = Unit {0}

-- the modules show this, their units are within the limit, this is the top's number, and where it is known their nets are declared
pub record AreShownFrom (modules : List Module) (number : ℕ) (shown : List Module) (top : ℕ) (is_declared : Bool) : Type 0 where
  pub shown_are : shown ≡ map interface modules
  pub top_is : top ≡ number
  pub few_units : units (cells_from modules) ≤ unit_limit
  pub declared : is_declared ≡ true → AllByRecursion (λ m. implicit_names m ≡ []) modules

-- the file breaks no rule; the reached modules show this within the limit, this is the top's number; where it is known, nets are declared
pub record AreShown (file : VlogFile) (top : Name) (shown : List Module) (number : ℕ) (is_declared : Bool) : Type 0 where
  pub no_refusals : refusals file top ≡ []
  pub shown_are : shown ≡ map interface (reached file top)
  pub number_is : number ≡ module_number (reached file top) top
  pub few_units : units (cells_from (reached file top)) ≤ unit_limit
  pub declared : is_declared ≡ true → AllByRecursion (λ m. implicit_names m ≡ []) (reached file top)
