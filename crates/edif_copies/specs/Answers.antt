-- What an EDIF file of a design keeps.
use Rattle.std.specs.Prelude.{◌≡◌, Bool, List, length, None, Some}
use Rattle.net_hier.specs.Constants.{ConstantNames}
use Rattle.net_hier.specs.Design.{Design}
use Rattle.net_hier.specs.SameCells.{SameCells}
use Rattle.net_hier.specs.SameDesign.{SameDesign}
use Rattle.edif_values.specs.declared.file.EdifFile.{EdifFile}
use Rattle.edif_design.specs.Design.{edif_design}
use Rattle.edif_design.specs.FileRules.{first_E}
use Rattle.edif_plans.specs.Missing.{AreMissing}

-- The design has the cells, the top and the properties that the file says; of the order of its cells nothing is asked.
pub record IsEdifDesign (file : EdifFile) (design : Design) : Type 0 where
  pub same_cells : design.cells ≡ (edif_design file).cells
  pub same_top : design.top ≡ (edif_design file).top
  pub same_props : design.props ≡ (edif_design file).props

-- The file breaks no rule, and each design that says what the file says is the same as the design under these names of the constants' cells: cell by cell, behind one first cell for
-- each constant that some cell needs and no cell stands for, and so as a whole.
pub record IsEdifFor (names : ConstantNames) (design : Design) (file : EdifFile) : Type 0 where
  pub no_refusal : first_E file ≡ None
  pub values : List Bool
  pub are_missing : AreMissing names design values
  pub same_cells : (other : Design) → IsEdifDesign file other → SameCells names design other (Some (length values))
  pub same_design : (other : Design) → IsEdifDesign file other → SameDesign names design other
