-- Designs that are the same but for their hierarchy.
use Rattle.std.specs.Prelude.{◌≡◌, ℕ, ◌↔◌, List, [], ◌∷◌, Bool, slice_get, Some}
use Rattle.net_hier.specs.Cells.{IsAnyConstantCell, IsLeaf, IsPortBit}
use Rattle.net_hier.specs.Constants.{ConstantNames}
use Rattle.net_hier.specs.Design.{Design, IsCell}
use Rattle.net_hier.specs.Facts.{SameValues, cell_props}
use Rattle.net_hier.specs.Flat.{FlatNode, Constant, At, IsConnected}
use Rattle.net_hier.specs.Paths.{Path, CellAt, LeafAt}
use Rattle.net_hier.specs.SameDesign.{SamePorts}
use Rattle.net_hier.specs.declared.cells.HCell.{HCell}
use Rattle.net_hier.specs.declared.cells.HInst.{HInst}
use Rattle.net_hier.specs.declared.cells.HPort.{HPort}
use Rattle.net_hier.specs.declared.nodes.Node.TheVariants.{Port}
use Rattle.net_flatten_rules.specs.Joined.{joined}

-- the leaf at a path below the top that is no constant cell, and the last instance of the path
pub record InnerLeaf (names : ConstantNames) (design : Design) (path : Path) (instance : HInst) (cell : HCell) : Type 0 where
  pub leaf : LeafAt names design path cell
  pub name : List ℕ
  pub outer : Path
  pub path_is : path ≡ name ∷ outer
  pub above : HCell
  pub at_above : CellAt design outer above
  pub number : ℕ
  pub is_there : slice_get above.instances number ≡ Some instance
  pub is_named : instance.name ≡ name

-- the top of the design
abbrev pub IsTop : Design → HCell → Type 0
IsTop design top = IsCell design.cells design.top top

-- the instance of this place in the top is of this cell
pub record TopInstance (design : Design) (place : ℕ) (instance : HInst) (cell : HCell) : Type 0 where
  pub top : HCell
  pub is_top : IsTop design top
  pub is_there : slice_get top.instances place ≡ Some instance
  pub is_of : IsCell design.cells instance.cell cell

-- two cells have the same ports and properties: the lists of ports by name, range and direction, and last values
pub record SameInterface (cell other : HCell) : Type 0 where
  pub same_ports : SamePorts cell other
  pub same_port_props : (place : ℕ) (port counterpart : HPort) → slice_get cell.ports place ≡ Some port → slice_get other.ports place ≡ Some counterpart → SameValues port.props counterpart.props

-- the instance stands for the leaf: under its joined name, with the leaf's ports and properties, those of its cell and those of the last instance of its path
pub record SameLeaf (names : ConstantNames) (path : Path) (instance : HInst) (cell : HCell) (counterpart : HInst) (partner : HCell) : Type 0 where
  pub same_name : counterpart.name ≡ joined path
  pub same_cell : cell.name ≡ partner.name
  pub is_leaf : IsLeaf partner
  pub no_constant : ¬ IsAnyConstantCell names partner
  pub same_interface : SameInterface cell partner
  pub same_props : SameValues cell.props partner.props
  pub same_instance : SameValues instance.props counterpart.props

-- where a terminal stands in the flat design: a leaf's bits at its joined name
abbrev pub flat_path : Path → Path
flat_path [] = []
flat_path (name ∷ outer) = joined (name ∷ outer) ∷ []

-- a terminal of the design and its partner
pub data Partner (names : ConstantNames) (design : Design) : FlatNode → FlatNode → Type 0 where
  constant : (value : Bool) → Partner names design (Constant value) (Constant value)
  top_bit : {top : HCell} {port bit : ℕ} → IsTop design top → IsPortBit top port bit → Partner names design (At [] (Port port bit)) (At [] (Port port bit))
  leaf_bit : {path : Path} {instance : HInst} {cell : HCell} {port bit : ℕ} → InnerLeaf names design path instance cell → IsPortBit cell port bit →
      Partner names design (At path (Port port bit)) (At (flat_path path) (Port port bit))

-- the other design is the design as one cell of leaf instances
pub record SameFlat (names : ConstantNames) (design other : Design) : Type 0 where
  pub same_name : (top otop : HCell) → IsTop design top → IsTop other otop → top.name ≡ otop.name
  pub has_leaves : (path : Path) (instance : HInst) (cell : HCell) → InnerLeaf names design path instance cell →
      (place : ℕ) × (counterpart : HInst) × (partner : HCell) × TopInstance other place counterpart partner × SameLeaf names path instance cell counterpart partner
  pub one_each : (path opath : Path) (instance oinstance : HInst) (cell ocell : HCell) → InnerLeaf names design path instance cell → InnerLeaf names design opath oinstance ocell → joined path ≡ joined opath → path ≡ opath
  pub no_more : (place : ℕ) (counterpart : HInst) (partner : HCell) → TopInstance other place counterpart partner → ¬ IsAnyConstantCell names partner →
      IsLeaf partner × (path : Path) × (instance : HInst) × (cell : HCell) × InnerLeaf names design path instance cell × (counterpart.name ≡ joined path)
  pub same_top : (top otop : HCell) → IsTop design top → IsTop other otop → SameInterface top otop
  pub same_top_props : (top otop : HCell) → IsTop design top → IsTop other otop → SameValues (cell_props design design.top top) (cell_props other other.top otop)
  pub same_connection : (x y ox oy : FlatNode) → Partner names design x ox → Partner names design y oy → IsConnected names design x y ↔ IsConnected names other ox oy
