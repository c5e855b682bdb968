-- A cell whose name and ports stand apart from what it is made of.
use Rattle.std.specs.Prelude.{List}
use Rattle.net_bits.specs.Classes.{AreClasses, ClassTable}
use Rattle.net_hier.specs.Valid.{IsGoodCell}
use Rattle.net_hier.specs.declared.cells.HCell.{HCell}
use Rattle.net_hier.specs.declared.cells.HInst.{HInst}
use Rattle.net_hier.specs.declared.nodes.Join.{Join}

-- the cell with the name and the ports of the first one, these instances, the nets and properties of the other one, and these joins
abbrev pub whole_cell : HCell → List HInst → HCell → List Join → HCell
whole_cell shown instances inside joins = record { name = shown.name; ports = shown.ports; instances = instances; nets = inside.nets; joins = joins; props = inside.props }

-- with some joins it is a good cell of these, and has these classes
pub record IsWhole (cells : List HCell) (shown : HCell) (instances : List HInst) (inside : HCell) (classes : ClassTable) : Type 0 where
  pub joins : List Join
  pub is_good : IsGoodCell cells (whole_cell shown instances inside joins)
  pub are_classes : AreClasses (whole_cell shown instances inside joins) classes
