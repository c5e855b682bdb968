-- Designs with the same pins: the port bits of the top and of the cells without instances, and which of them are plainly connected.
use Rattle.std.specs.Prelude.{◌≡◌, ℕ, ◌↔◌, List, [], map}
use Rattle.net_hier.specs.Cells.{IsPortBit}
use Rattle.net_hier.specs.Design.{Design, IsCell}
use Rattle.net_hier.specs.Flat.{At}
use Rattle.net_hier.specs.Paths.{Path, CellAt}
use Rattle.net_hier.specs.declared.cells.HCell.{HCell}
use Rattle.net_hier.specs.declared.nodes.Node.TheVariants.{Port}
use Rattle.to_spice_rules.specs.PortWords.{port_words}
use Rattle.spice_partners.specs.Places.{place_of}
use Rattle.spice_partners.specs.Plain.{IsPlainlyConnected}

-- the path leads to a cell without instances
pub record PlainLeafAt (design : Design) (path : Path) (cell : HCell) : Type 0 where
  pub at : CellAt design path cell
  pub no_instances : cell.instances ≡ []

-- the path leads to a cell of this name without instances
pub record HasPlainLeaf (design : Design) (path : Path) (name : List ℕ) : Type 0 where
  pub cell : HCell
  pub is_leaf : PlainLeafAt design path cell
  pub is_named : cell.name ≡ name

-- the cell has pins at the path: it is the top, or has no instances
pub data HasPinsAt (design : Design) : Path → HCell → Type 0 where
  of_top : {cell : HCell} → IsCell design.cells design.top cell → HasPinsAt design [] cell
  of_leaf : {path : Path} {cell : HCell} → PlainLeafAt design path cell → HasPinsAt design path cell

-- a port bit of the top or of a cell without instances
pub record IsPinAt (design : Design) (path : Path) (cell : HCell) (port bit : ℕ) : Type 0 where
  pub has_pins : HasPinsAt design path cell
  pub is_bit : IsPortBit cell port bit

-- The two designs have the same cells without instances, by paths and names. At the top and at these the words of the port bits of the design are the
-- names of the ports of the other one, whose ports are scalars, and two of these bits are plainly connected in one exactly where they are in the other.
pub record SamePins (design other : Design) : Type 0 where
  pub same_leaves : (path : Path) (name : List ℕ) → HasPlainLeaf design path name ↔ HasPlainLeaf other path name
  pub same_words : (path : Path) (cell ocell : HCell) → HasPinsAt design path cell → HasPinsAt other path ocell → port_words cell ≡ map (λ port. port.name) ocell.ports
  pub same_connection : (path opath : Path) (cell ocell : HCell) (port bit oport obit : ℕ) → IsPinAt design path cell port bit → IsPinAt design opath ocell oport obit →
      IsPlainlyConnected design (At path (Port port bit)) (At opath (Port oport obit))
      ↔ IsPlainlyConnected other (At path (Port (place_of cell port bit) 0)) (At opath (Port (place_of ocell oport obit) 0))
