-- The nodes of the pins of a cell: one for each local class.
use Rattle.std.specs.Prelude.{◌≡◌, ℕ, ◌++◌, List, [], ◌∷◌, map, flat_map, Option, Contains}
use Rattle.std.specs.List.{enumerate_from, range_with_len}
use Rattle.net_hier.specs.Cells.{IsLocallyConnected, IsPortBit, width_of}
use Rattle.net_hier.specs.declared.cells.HCell.{HCell}
use Rattle.net_hier.specs.declared.cells.HPort.{HPort}
use Rattle.net_hier.specs.declared.nodes.Node.{Node}
use Rattle.net_hier.specs.declared.nodes.Node.TheVariants.{Port, Pin}
use Rattle.to_spice_rules.specs.PortWords.{word_of}
use Rattle.to_spice_nodes.specs.Naming.{Given, IsNetOf, IsNewName, if_free, used_names}

-- the class of the pin has no node yet: no port bit is connected to it, and no pin that has one
pub record IsUnnamed (cell : HCell) (given : Given) (pin : Node) : Type 0 where
  pub no_port : (port bit : ℕ) → IsPortBit cell port bit → ¬ IsLocallyConnected cell pin (Port port bit)
  pub no_pin : (other : Node) (name : List ℕ) → Contains given (other, name) → ¬ IsLocallyConnected cell pin other

-- the node of a pin: the word of the port bit of its class, else the node of an earlier pin of its class, else a new name
pub data IsNode (cell : HCell) (given : Given) (pin : Node) (name : List ℕ) : Type 0 where
  of_port : (port bit : ℕ) → IsPortBit cell port bit → IsLocallyConnected cell pin (Port port bit) → name ≡ word_of cell (Port port bit) → IsNode cell given pin name
  of_pin : (other : Node) → Contains given (other, name) → IsLocallyConnected cell pin other → IsNode cell given pin name
  is_new : IsUnnamed cell given pin → (net : Option (List ℕ)) → IsNetOf cell pin net → IsNewName (used_names cell given) (if_free (used_names cell given) net) name → IsNode cell given pin name

-- the nodes of pins, one after another
pub data AreNodes (cell : HCell) : Given → List Node → List (List ℕ) → Type 0 where
  no_nodes : {given : Given} → AreNodes cell given [] []
  next_node : {given : Given} {pin : Node} {name : List ℕ} {pins : List Node} {names : List (List ℕ)} →
      IsNode cell given pin name → AreNodes cell (given ++ (pin, name) ∷ []) pins names → AreNodes cell given (pin ∷ pins) (name ∷ names)

-- the pins with their nodes
abbrev pub paired : List Node → List (List ℕ) → Given
paired [] names = []
paired (pin ∷ pins) [] = []
paired (pin ∷ pins) (name ∷ names) = (pin, name) ∷ paired pins names

-- the pins of an instance for the port of this number
abbrev pub port_pins : ℕ → (ℕ × HPort) → List Node
port_pins instance port = map (λ bit. Pin instance port.0 bit) (range_with_len 0 (width_of port.1.range))

-- the pins of an instance of a cell, in the order of its port bits
abbrev pub pins_of : ℕ → HCell → List Node
pins_of instance below = flat_map (port_pins instance) (enumerate_from 0 below.ports)
