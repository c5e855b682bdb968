-- The names of a design that can be written: at most 1,048,000 bytes below 256.
use Rattle.std.specs.Prelude.{ℕ, ◌<◌, ◌≤◌, List, length}
use Rattle.std.specs.List.{AllByRecursion}
use Rattle.net_hier.specs.Design.{Design}
use Rattle.net_hier.specs.declared.cells.HCell.{HCell}
use Rattle.net_hier.specs.declared.cells.HInst.{HInst}
use Rattle.net_hier.specs.declared.cells.HNet.{HNet}
use Rattle.net_hier.specs.declared.cells.HPort.{HPort}
use Rattle.net_hier.specs.declared.cells.HProp.{HProp}

-- bytes, of which there are at most 1,048,000
pub record IsShort (name : List ℕ) : Type 0 where
  pub bytes : AllByRecursion (λ b. b < 256) name
  pub short : length name ≤ 1048000

-- the names of properties
abbrev pub HaveShortNames : List HProp → Type 0
HaveShortNames props = AllByRecursion (λ prop. IsShort prop.name) props

-- the names of a cell and of all that stands in it
pub record IsShortCell (cell : HCell) : Type 0 where
  pub name : IsShort cell.name
  pub props : HaveShortNames cell.props
  pub ports : AllByRecursion (λ (port : HPort). IsShort port.name × HaveShortNames port.props) cell.ports
  pub instances : AllByRecursion (λ (instance : HInst). IsShort instance.name × HaveShortNames instance.props) cell.instances
  pub nets : AllByRecursion (λ (net : HNet). IsShort net.name × HaveShortNames net.props) cell.nets

-- The names of a design are short enough for an EDIF text, in which a name that is no identifier stands beside one.
pub record HasShortNames (design : Design) : Type 0 where
  pub cells : AllByRecursion IsShortCell design.cells
  pub props : HaveShortNames design.props
