use Rattle.std.specs.Prelude.{◌≡◌, ℕ, ◌↔◌, List, map, Option}
use Rattle.nl_base.specs.declared.value.Dir.{Dir}
use Rattle.nl_base.specs.Ranges.{Bounds}
use Rattle.net_hier.specs.Constants.{ConstantNames}
use Rattle.net_hier.specs.Design.{Design, IsCell}
use Rattle.net_hier.specs.Facts.{Fact, IsFact}
use Rattle.net_hier.specs.Flat.{FlatNode, IsConnected, IsTerminal}
use Rattle.net_hier.specs.Paths.{Path, LeafAt}
use Rattle.net_hier.specs.declared.cells.HCell.{HCell}
use Rattle.net_hier.specs.declared.cells.HPort.{HPort}

-- what two designs compare of a port
pub record PortSignature : Type 0 where
  pub name : List ℕ
  pub range : Option Bounds
  pub dir : Dir

abbrev pub signature_of : HPort → PortSignature
signature_of port = record { name = port.name; range = port.range; dir = port.dir }

-- the ports of two cells are the same by name, range and direction
abbrev pub SamePorts : HCell → HCell → Type 0
SamePorts cell other = map signature_of cell.ports ≡ map signature_of other.ports

-- the path leads to a leaf of this name that is no constant cell
pub record HasLeaf (names : ConstantNames) (design : Design) (path : Path) (name : List ℕ) : Type 0 where
  pub cell : HCell
  pub is_leaf : LeafAt names design path cell
  pub is_named : cell.name ≡ name

pub record SameDesign (names : ConstantNames) (design other : Design) : Type 0 where
  pub same_name : (top otop : HCell) → IsCell design.cells design.top top → IsCell other.cells other.top otop → top.name ≡ otop.name
  pub same_leaves : (path : Path) (name : List ℕ) → HasLeaf names design path name ↔ HasLeaf names other path name
  pub same_top_ports : (top otop : HCell) → IsCell design.cells design.top top → IsCell other.cells other.top otop → SamePorts top otop
  pub same_leaf_ports : (path : Path) (leaf oleaf : HCell) → LeafAt names design path leaf → LeafAt names other path oleaf → SamePorts leaf oleaf
  pub same_facts : (fact : Fact) → IsFact names design fact ↔ IsFact names other fact
  pub same_connection : (x y : FlatNode) → IsTerminal names design x → IsTerminal names design y → IsConnected names design x y ↔ IsConnected names other x y
