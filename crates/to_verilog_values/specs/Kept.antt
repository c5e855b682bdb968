-- What a cell has that breaks no rule of the Verilog target.
use Rattle.std.specs.Prelude.{◌≡◌, ℕ, true, [], List, map, filter}
use Rattle.std.specs.List.{AllByRecursion}
use Rattle.net_bits.specs.Names.{NameSet}
use Rattle.net_hier.specs.declared.cells.HCell.{HCell}
use Rattle.net_hier.specs.declared.cells.HInst.{HInst}
use Rattle.net_hier.specs.declared.cells.HNet.{HNet}
use Rattle.net_hier.specs.declared.cells.HPort.{HPort}
use Rattle.net_hier.specs.declared.cells.HProp.{HProp}
use Rattle.to_verilog_props.specs.Written.{HaveNoFlags}
use Rattle.to_verilog_rules.specs.Rules.{is_name}
use Rattle.vlog_design.specs.Names.{has_name}

-- the names of properties can be written
abbrev pub HaveGoodNames : List HProp → Type 0
HaveGoodNames props = AllByRecursion (λ prop. is_name prop.name ≡ true) props

-- a name that can be written, of an object whose properties have such names
pub record IsNamedObject (name : List ℕ) (props : List HProp) : Type 0 where
  pub name_is : is_name name ≡ true
  pub props_are : HaveGoodNames props

-- The names of a cell and of all that stands in it can be written. `apart`: no port has the name of an instance. `no_flags`: no property of an
-- instance that is to be a parameter has a boolean as its last value.
pub record IsNamedCell (params : NameSet) (cell : HCell) : Type 0 where
  pub itself : IsNamedObject cell.name cell.props
  pub ports : AllByRecursion (λ (port : HPort). IsNamedObject port.name port.props) cell.ports
  pub instances : AllByRecursion (λ (instance : HInst). IsNamedObject instance.name instance.props) cell.instances
  pub nets : AllByRecursion (λ (net : HNet). HaveGoodNames net.props) cell.nets
  pub apart : filter (has_name (map (λ (instance : HInst). instance.name) cell.instances)) (map (λ (port : HPort). port.name) cell.ports) ≡ []
  pub no_flags : AllByRecursion (λ (instance : HInst). HaveNoFlags params instance.props) cell.instances
