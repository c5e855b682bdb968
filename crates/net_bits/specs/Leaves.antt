-- Leaves and the cells of the constants, by the classes of a cell.
use Rattle.std.specs.Prelude.{◌≡◌, ℕ, ◌<◌, ◌≤◌, List, [], ◌∷◌, Bool, true, false, None, count_by}
use Rattle.nl_base.specs.declared.value.Dir.TheVariants.{Output}
use Rattle.net_hier.specs.declared.cells.HCell.{HCell}
use Rattle.net_hier.specs.declared.cells.HPort.{HPort}
use Rattle.net_hier.specs.declared.constants.ConstName.{ConstName}
use Rattle.net_hier.specs.declared.nodes.Node.{Node}
use Rattle.net_hier.specs.declared.nodes.Node.TheVariants.{Port, Pin, Net, Zero, One}
use Rattle.net_bits.specs.Classes.{ClassTable, members_of}

-- whether the node is a port bit or a constant
abbrev pub is_outer : Node → Bool
is_outer (Port port bit) = true
is_outer (Pin instance port bit) = false
is_outer (Net net) = false
is_outer Zero = true
is_outer One = true

-- no class has two port bits or constants
abbrev pub AreApart : ClassTable → Type 0
AreApart classes = (class : ℕ) → class < classes.count → count_by is_outer (members_of classes class) ≤ 1

-- the port is a scalar output of this name
pub record IsScalarOutput (name : List ℕ) (port : HPort) : Type 0 where
  pub is_named : port.name ≡ name
  pub is_scalar : port.range ≡ None
  pub is_output : port.dir ≡ Output

-- the cell has the constant's name, and one port, a scalar output with the name of the constant's port
pub record HasForm (name : ConstName) (cell : HCell) : Type 0 where
  pub is_named : cell.name ≡ name.cell
  pub port : HPort
  pub only_port : cell.ports ≡ port ∷ []
  pub is_port : IsScalarOutput name.port port
