use Rattle.std.specs.Prelude.{ℕ, ◌⊎◌, [], ◌∷◌, Bool, true, false}
use Rattle.net_hier.specs.Cells.{HasLocalStep, IsConstantInstance, IsPinBit, IsPortBit}
use Rattle.net_hier.specs.Constants.{ConstantNames}
use Rattle.net_hier.specs.Design.{Design, IsCell}
use Rattle.net_hier.specs.Paths.{Path, CellAt, LeafAt}
use Rattle.net_graph.specs.Walks.{IsLinked}
use Rattle.net_hier.specs.declared.cells.HCell.{HCell}
use Rattle.net_hier.specs.declared.nodes.Node.{Node}
use Rattle.net_hier.specs.declared.nodes.Node.TheVariants.{Port, Pin, Net, Zero, One}

-- a constant, which the whole design has once, or a node of the cell at a path
pub data FlatNode : Type 0 where
  Constant : Bool → FlatNode
  At : Path → Node → FlatNode

-- a cell's node at a path: the constants are taken without it
abbrev pub taken_at : Path → Node → FlatNode
taken_at path Zero = Constant false
taken_at path One = Constant true
taken_at path (Port port bit) = At path (Port port bit)
taken_at path (Pin instance port bit) = At path (Pin instance port bit)
taken_at path (Net net) = At path (Net net)

-- a flat step, in one direction
pub data FlatLink (names : ConstantNames) (design : Design) : FlatNode → FlatNode → Type 0 where
  -- between the two nodes of a join
  by_join : {path : Path} {cell : HCell} {x y : Node} → CellAt design path cell → HasLocalStep cell x y → FlatLink names design (taken_at path x) (taken_at path y)
  -- from a pin bit to the same port bit one level down
  by_pin : {path : Path} {cell : HCell} {instance port bit : ℕ} → CellAt design path cell → (pin : IsPinBit design.cells cell instance port bit) →
      FlatLink names design (At path (Pin instance port bit)) (At (pin.the_instance.name ∷ path) (Port port bit))
  -- from the pin of an instance of a constant cell to the constant
  by_constant : {path : Path} {cell : HCell} {instance : ℕ} {value : Bool} → CellAt design path cell → IsConstantInstance names design.cells cell value instance →
      FlatLink names design (At path (Pin instance 0 0)) (Constant value)

-- a flat step between the two
abbrev pub FlatStep : ConstantNames → Design → FlatNode → FlatNode → Type 0
FlatStep names design x y = FlatLink names design x y ⊎ FlatLink names design y x

-- a list of flat nodes leads from one to the other by flat steps
abbrev pub IsConnected : ConstantNames → Design → FlatNode → FlatNode → Type 0
IsConnected names design = IsLinked (FlatStep names design)

-- the nodes whose connection two designs have to share
pub data IsTerminal (names : ConstantNames) (design : Design) : FlatNode → Type 0 where
  of_constant : (value : Bool) → IsTerminal names design (Constant value)
  of_top : {cell : HCell} {port bit : ℕ} → IsCell design.cells design.top cell → IsPortBit cell port bit → IsTerminal names design (At [] (Port port bit))
  of_leaf : {path : Path} {cell : HCell} {port bit : ℕ} → LeafAt names design path cell → IsPortBit cell port bit → IsTerminal names design (At path (Port port bit))
