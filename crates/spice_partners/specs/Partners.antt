-- Subcircuits that are written for the cells of a design.
use Rattle.std.specs.Prelude.{◌≡◌, ◌↔◌, ℕ, List, IsTrue, Option, None, Some, length, slice_get}
use Rattle.std.specs.Option.{option_and_then, option_map_or}
use Rattle.nl_base.specs.Case.{same_up_to_case}
use Rattle.net_hier.specs.Cells.{IsLocallyConnected}
use Rattle.net_hier.specs.Design.{Design, IsCell}
use Rattle.net_hier.specs.declared.cells.HCell.{HCell}
use Rattle.net_hier.specs.declared.cells.HInst.{HInst}
use Rattle.net_hier.specs.declared.nodes.Node.{Node}
use Rattle.net_hier.specs.declared.nodes.Node.TheVariants.{Port, Pin, Net, Zero, One}
use Rattle.net_stars.specs.Stars.{IsBit}
use Rattle.spice_text.specs.declared.file.Call.{Call}
use Rattle.spice_text.specs.declared.file.Subckt.{Subckt}
use Rattle.to_spice_rules.specs.PortWords.{port_words}
use Rattle.spice_partners.specs.Places.{place_of}

-- the cell of the instance of this number
abbrev pub below_at : List HCell → HCell → ℕ → Option HCell
below_at cells cell instance = option_and_then (λ i. slice_get cells i.cell) (slice_get cell.instances instance)

-- the place of a pin bit among those of its instance
abbrev pub pin_place : List HCell → HCell → ℕ → ℕ → ℕ → ℕ
pin_place cells cell instance port bit = option_map_or (λ below. place_of below port bit) (below_at cells cell instance) 0

-- what stands for a port bit or a pin bit where each port is a scalar
abbrev pub scalar_node : List HCell → HCell → Node → Node
scalar_node cells cell (Port port bit) = Port (place_of cell port bit) 0
scalar_node cells cell (Pin instance port bit) = Pin instance (pin_place cells cell instance port bit) 0
scalar_node cells cell (Net net) = Net net
scalar_node cells cell Zero = Zero
scalar_node cells cell One = One

-- the node of a call at this place
abbrev pub node_in : Option Call → ℕ → Option (List ℕ)
node_in None place = None
node_in (Some call) place = slice_get call.nodes place

-- the word of a subcircuit at a port or a pin
abbrev pub word_at : Subckt → Node → Option (List ℕ)
word_at subckt (Port port bit) = slice_get subckt.ports port
word_at subckt (Pin instance port bit) = node_in (slice_get subckt.calls instance) port
word_at subckt (Net net) = None
word_at subckt Zero = None
word_at subckt One = None

-- the word of a subcircuit for a port bit or a pin bit of a cell
abbrev pub word_for : List HCell → HCell → Subckt → Node → Option (List ℕ)
word_for cells cell subckt node = word_at subckt (scalar_node cells cell node)

-- the call has the name of an instance, the name of its cell, and as many nodes as that has port bits
pub record IsCallFor (cells : List HCell) (instance : HInst) (call : Call) : Type 0 where
  pub same_name : call.name ≡ instance.name
  pub below : HCell
  pub is_below : IsCell cells instance.cell below
  pub of_below : call.cell ≡ below.name
  pub as_many : length call.nodes ≡ length (port_words below)

-- the subcircuit has the name of a cell, the words of its port bits and a call for each instance, and its words for two bits are alike exactly where these are locally connected
pub record IsSubcktFor (cells : List HCell) (cell : HCell) (subckt : Subckt) : Type 0 where
  pub same_name : subckt.name ≡ cell.name
  pub same_ports : subckt.ports ≡ port_words cell
  pub as_many : length subckt.calls ≡ length cell.instances
  pub calls : (place : ℕ) (instance : HInst) (call : Call) → slice_get cell.instances place ≡ Some instance → slice_get subckt.calls place ≡ Some call → IsCallFor cells instance call
  pub nodes : (x y : Node) (word oword : List ℕ) → IsBit cells cell x → IsBit cells cell y → word_for cells cell subckt x ≡ Some word → word_for cells cell subckt y ≡ Some oword →
      IsTrue (same_up_to_case word oword) ↔ IsLocallyConnected cell x y

-- the subcircuit is one for the cell of this number
pub record IsWrittenFor (design : Design) (number : ℕ) (subckt : Subckt) : Type 0 where
  pub cell : HCell
  pub is_cell : IsCell design.cells number cell
  pub is_for : IsSubcktFor design.cells cell subckt

-- a subcircuit for each cell, in the order of the design
pub record AreSubcktsFor (design : Design) (subckts : List Subckt) : Type 0 where
  pub as_many : length subckts ≡ length design.order
  pub each : (place number : ℕ) (subckt : Subckt) → slice_get design.order place ≡ Some number → slice_get subckts place ≡ Some subckt → IsWrittenFor design number subckt
