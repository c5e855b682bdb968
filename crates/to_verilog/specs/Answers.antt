-- What the translation of a design to Verilog keeps (IEEE 1364-2005, 12).
use Rattle.std.specs.Prelude.{◌≡◌, ⊤, ℕ, List, length, slice_get, None, Some}
use Rattle.net_bits.specs.Names.{NameSet, has_name}
use Rattle.net_hier.specs.Constants.{AreConstantNames, ConstantNames}
use Rattle.net_hier.specs.Design.{Design, top_name}
use Rattle.net_hier.specs.SameCells.{SameCells}
use Rattle.net_hier.specs.SameDesign.{SameDesign}
use Rattle.vlog_design.specs.Rules.{first_G}
use Rattle.vlog_design_laws.specs.Designs.{IsVlogDesign}
use Rattle.vlog_partners.specs.Partners.{IsWritten}
use Rattle.vlog_values.specs.declared.module.Module.{Module}
use Rattle.vlog_values.specs.declared.module.VlogFile.{VlogFile}
use Rattle.to_verilog.specs.Modules.{IsModuleOf}
use Rattle.to_verilog_rules.specs.Rules.{first_V}
use Rattle.to_verilog.specs.declared.translate.TargetError.{TargetError}
use Rattle.to_verilog.specs.declared.translate.TargetError.TheVariants.{Refused, NoMemory}

-- the file breaks no rule under the name of the design's top, and each design that says what the file says is the same as the design, cell by cell, and so as a whole, whichever
-- cells stand for the constants
pub record IsVerilogFor (design : Design) (file : VlogFile) : Type 0 where
  pub no_refusal : first_G file (top_name design.cells design.top) ≡ None
  pub same_cells : (names : ConstantNames) → AreConstantNames names → (other : Design) → IsVlogDesign file (top_name design.cells design.top) other → SameCells names design other None
  pub same_design : (names : ConstantNames) → AreConstantNames names → (other : Design) → IsVlogDesign file (top_name design.cells design.top) other → SameDesign names design other

-- the design breaks no rule of Verilog as a target, and the file is one for it
pub record IsTranslated (design : Design) (params : NameSet) (file : VlogFile) : Type 0 where
  pub no_refusal : first_V design.cells design.top design.props (has_name params) ≡ None
  pub same : IsVerilogFor design file

-- why a design is not translated: the first object that breaks the lowest broken rule; want of memory has no cause
abbrev pub IsTargetFault : Design → NameSet → TargetError → Type 0
IsTargetFault design params (Refused refusal) = first_V design.cells design.top design.props (has_name params) ≡ Some refusal
IsTargetFault design params NoMemory = ⊤

-- the modules of the cells of these numbers, in order
pub record AreModules (design : Design) (params : NameSet) (numbers : List ℕ) (modules : List Module) : Type 0 where
  pub as_many : length modules ≡ length numbers
  pub written : (place number : ℕ) (m : Module) → slice_get numbers place ≡ Some number → slice_get modules place ≡ Some m → IsWritten design number m
  pub plain : (place number : ℕ) (m : Module) → slice_get numbers place ≡ Some number → slice_get modules place ≡ Some m → IsModuleOf design params number m
