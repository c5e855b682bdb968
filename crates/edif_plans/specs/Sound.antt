-- Designs that can be written in EDIF: names have at most 1,048,000 bytes, and strings at most 1,048,576.
use Rattle.std.specs.Prelude.{ℕ, ◌≤◌, List, length}
use Rattle.std.specs.List.{AllByRecursion}
use Rattle.edif_values.specs.Proper.{AreBytes}
use Rattle.edif_written.specs.Sound.{AreSoundProps, IsShort}
use Rattle.net_hier.specs.Constants.{ConstantNames}
use Rattle.net_hier.specs.Design.{Design}
use Rattle.net_hier.specs.declared.cells.HCell.{HCell}
use Rattle.net_hier.specs.declared.cells.HInst.{HInst}
use Rattle.net_hier.specs.declared.cells.HNet.{HNet}
use Rattle.net_hier.specs.declared.cells.HPort.{HPort}

-- the names and values of an object of a cell can be written
pub record IsSoundPort (port : HPort) : Type 0 where
  pub name : IsShort port.name
  pub props : AreSoundProps port.props

pub record IsSoundInstance (instance : HInst) : Type 0 where
  pub name : IsShort instance.name
  pub props : AreSoundProps instance.props

pub record IsSoundNet (net : HNet) : Type 0 where
  pub name : IsShort net.name
  pub props : AreSoundProps net.props

-- those of a cell
pub record IsSoundCell (cell : HCell) : Type 0 where
  pub name : IsShort cell.name
  pub ports : AllByRecursion IsSoundPort cell.ports
  pub instances : AllByRecursion IsSoundInstance cell.instances
  pub nets : AllByRecursion IsSoundNet cell.nets
  pub props : AreSoundProps cell.props

-- and those of a design
pub record IsSoundDesign (design : Design) : Type 0 where
  pub cells : AllByRecursion IsSoundCell design.cells
  pub props : AreSoundProps design.props

-- at most 1,024 bytes
pub record IsStem (text : List ℕ) : Type 0 where
  pub bytes : AreBytes text
  pub short : length text ≤ 1024

-- the names of the constants' cells and ports are such
pub record AreStems (names : ConstantNames) : Type 0 where
  pub zero_cell : IsStem names.zero.cell
  pub zero_port : IsStem names.zero.port
  pub one_cell : IsStem names.one.cell
  pub one_port : IsStem names.one.port
