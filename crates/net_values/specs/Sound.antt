-- The values of a design that can be written: strings of at most 1,048,576 bytes below 256, numbers of an absolute value below 2^63, and
-- bounds of ranges of one below 2^31.
use Rattle.std.specs.Prelude.{⊤, List, IfSome}
use Rattle.std.specs.List.{AllByRecursion}
use Rattle.nl_base.specs.declared.value.PropValue.{PropValue}
use Rattle.nl_base.specs.declared.value.PropValue.TheVariants as values
use Rattle.net_hier.specs.Design.{Design}
use Rattle.net_hier.specs.declared.cells.HCell.{HCell}
use Rattle.net_hier.specs.declared.cells.HInst.{HInst}
use Rattle.net_hier.specs.declared.cells.HNet.{HNet}
use Rattle.net_hier.specs.declared.cells.HPort.{HPort}
use Rattle.net_hier.specs.declared.cells.HProp.{HProp}
use Rattle.vlog_values.specs.Values.{IsNumber, IsRange, IsReal, IsString}

-- the value of a property is within its limits
abbrev pub IsSoundValue : PropValue → Type 0
IsSoundValue (values.Str s) = IsString s
IsSoundValue (values.Int n) = IsNumber n
IsSoundValue (values.Flag b) = ⊤
IsSoundValue (values.Scaled r) = IsReal r

-- so is each of these
abbrev pub AreSoundProps : List HProp → Type 0
AreSoundProps props = AllByRecursion (λ prop. IsSoundValue prop.value) props

-- the range of a port, where it has one, and the values of its properties
pub record IsSoundPort (port : HPort) : Type 0 where
  pub range : IfSome port.range IsRange
  pub props : AreSoundProps port.props

-- the values of a cell and of all that stands in it
pub record IsSoundCell (cell : HCell) : Type 0 where
  pub props : AreSoundProps cell.props
  pub ports : AllByRecursion IsSoundPort cell.ports
  pub instances : AllByRecursion (λ (instance : HInst). AreSoundProps instance.props) cell.instances
  pub nets : AllByRecursion (λ (net : HNet). AreSoundProps net.props) cell.nets

-- The values of a design are within the limits of both languages.
pub record IsSound (design : Design) : Type 0 where
  pub cells : AllByRecursion IsSoundCell design.cells
  pub props : AreSoundProps design.props
