-- What the flat classes need of each cell.
use Rattle.std.specs.Prelude.{◌≡◌, ℕ, ◌⊎◌, ◌↔◌, IsTrue, List, [], ◌∷◌, length, map, slice_get, Some, Bool, true}
use Rattle.std.specs.List.{flat_map, range_with_len}
use Rattle.net_hier.specs.Cells.{IsConstantCell, IsLeaf}
use Rattle.net_hier.specs.Constants.{ConstantNames}
use Rattle.net_hier.specs.Design.{IsCell}
use Rattle.net_hier.specs.declared.cells.HCell.{HCell}
use Rattle.net_hier.specs.declared.nodes.Join.{Join}
use Rattle.net_hier.specs.declared.nodes.Node.{Node}
use Rattle.net_bits.specs.Classes.{ClassTable, members_of}
use Rattle.flat_numbers.specs.FlatJoins.{AreCellLinks, AreConstants}
use Rattle.flat_numbers.specs.Numbers.{AreLinks}
use Rattle.flat_classes.specs.declared.kinds.Kind.{Kind}
use Rattle.flat_classes.specs.declared.kinds.Kinds.{Kinds}

-- links from the first of the nodes to each of the others
abbrev pub star : List Node → List Join
star [] = []
star (hub ∷ others) = map (λ node. record { a = hub; b = node }) others

-- these for each class
abbrev pub stars : ClassTable → List Join
stars classes = flat_map (λ class. star (members_of classes class)) (range_with_len 0 classes.count)

-- links that connect what the cell's joins connect, or none where its own joins are taken; whether it is a leaf, and which constant it stands for
pub record IsKindOf (names : ConstantNames) (cells : List HCell) (cell : HCell) (kind : Kind) : Type 0 where
  pub links : (kind.links.items ≡ []) ⊎ AreLinks cells cell kind.links.items
  pub leaf : IsTrue kind.leaf ↔ IsLeaf cell
  pub constant : (value : Bool) → (kind.constant ≡ Some value) ↔ IsConstantCell names value cell

abbrev pub IsKindAt : ConstantNames → List HCell → ℕ → Kind → Type 0
IsKindAt names cells number kind = (cell : HCell) → IsCell cells number cell → IsKindOf names cells cell kind

-- the marks say for each cell whether it is a leaf
pub record AreLeafMarks (cells : List HCell) (marks : List Bool) : Type 0 where
  pub len : length marks ≡ length cells
  pub are : (number : ℕ) (cell : HCell) → IsCell cells number cell → (slice_get marks number ≡ Some true) ↔ IsLeaf cell

-- links that connect what the joins connect, leaves, and constant cells
pub record AreKinds (names : ConstantNames) (cells : List HCell) (kinds : Kinds) : Type 0 where
  pub links : AreCellLinks cells kinds.links.items
  pub leaves : AreLeafMarks cells kinds.leaves.items
  pub constants : AreConstants names cells kinds.constants.items
