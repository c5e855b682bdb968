-- Designs that say what a Verilog file says, however large they are.
use Rattle.std.specs.Prelude.{◌≡◌}
use Rattle.net_hier.specs.Design.{Design}
use Rattle.vlog_design.specs.Design.{vlog_design}
use Rattle.vlog_design.specs.Names.{Name}
use Rattle.vlog_values.specs.declared.module.VlogFile.{VlogFile}

-- The design has the cells, the top and the properties that the file says under this top; of the order of its cells nothing is asked.
pub record IsVlogDesign (file : VlogFile) (top : Name) (design : Design) : Type 0 where
  pub same_cells : design.cells ≡ (vlog_design file top).cells
  pub same_top : design.top ≡ (vlog_design file top).top
  pub same_props : design.props ≡ (vlog_design file top).props
