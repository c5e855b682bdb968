-- Designs whose names are made of bytes, and designs that can be written.
use Rattle.std.specs.Prelude.{List}
use Rattle.std.specs.List.{AllByRecursion}
use Rattle.edif_values.specs.Proper.{AreBytes}
use Rattle.net_hier.specs.Design.{Design}
use Rattle.net_hier.specs.declared.cells.HCell.{HCell}
use Rattle.net_hier.specs.declared.cells.HInst.{HInst}
use Rattle.net_hier.specs.declared.cells.HPort.{HPort}
use Rattle.net_hier.specs.declared.cells.HProp.{HProp}
use Rattle.net_values.specs.ShortNames.{HasShortNames}
use Rattle.net_values.specs.Sound.{IsSound}

-- the names of properties are made of bytes
abbrev pub HaveByteNames : List HProp → Type 0
HaveByteNames props = AllByRecursion (λ prop. AreBytes prop.name) props

abbrev pub IsPortByBytes : HPort → Type 0
IsPortByBytes port = AreBytes port.name × HaveByteNames port.props

abbrev pub IsInstanceByBytes : HInst → Type 0
IsInstanceByBytes instance = AreBytes instance.name × HaveByteNames instance.props

-- so are those of a cell, its ports and its instances; of its nets nothing is asked, since a flattened design has nets of its own
pub record IsCellByBytes (cell : HCell) : Type 0 where
  pub name : AreBytes cell.name
  pub props : HaveByteNames cell.props
  pub ports : AllByRecursion IsPortByBytes cell.ports
  pub instances : AllByRecursion IsInstanceByBytes cell.instances

-- The names of a design other than those of its nets are made of bytes.
pub record IsNamedByBytes (design : Design) : Type 0 where
  pub cells : AllByRecursion IsCellByBytes design.cells
  pub props : HaveByteNames design.props

-- A design can be written in either language: its names are short, and its values are within the limits of the texts.
pub record CanBeWritten (design : Design) : Type 0 where
  pub short : HasShortNames design
  pub sound : IsSound design
