-- The names of the nets that are written (EDIF 2 0 0, net and rename).
use Rattle.std.specs.Prelude.{◌≡◌, ℕ, Bool, true, false, List, codes, cond, find, map, nat_lt, Option, Some, None, slice_get}
use Rattle.std.specs.Option.{option_and_then}
use Rattle.edif_values.specs.Names.{original}
use Rattle.edif_values.specs.declared.name.NameDef.{NameDef}
use Rattle.net_hier.specs.Cells.{width_of}
use Rattle.net_hier.specs.declared.cells.HCell.{HCell}
use Rattle.net_hier.specs.declared.cells.HNet.{HNet}
use Rattle.net_hier.specs.declared.cells.HPort.{HPort}
use Rattle.net_hier.specs.declared.nodes.Node.{Node}
use Rattle.net_hier.specs.declared.nodes.Node.TheVariants.{Port, Pin, Net, Zero, One}
use Rattle.net_bits.specs.Classes.{ClassTable, members_of}
use Rattle.net_live.specs.Live.{bit_word, first_net}
use Rattle.edif_written.specs.Naming.{name_for}

-- the name of a net where neither a net nor a port bit has one for it
abbrev pub plain_name : List ℕ
plain_name = codes "net"

-- the name of the net, where it is there
unfoldable pub name_of_net : Option HNet → List ℕ
name_of_net None = plain_name
name_of_net (Some net) = net.name

-- the name of the port's bit, where the port is there and has it
unfoldable pub name_of_bit : Option HPort → ℕ → List ℕ
name_of_bit None bit = plain_name
name_of_bit (Some port) bit = cond (nat_lt bit (width_of port.range)) (bit_word port bit) plain_name

-- whether the node is a port bit
abbrev pub is_port_bit : Node → Bool
is_port_bit (Port port bit) = true
is_port_bit (Pin instance port bit) = false
is_port_bit (Net net) = false
is_port_bit Zero = false
is_port_bit One = false

-- the port bit that a node is: the number of the port, and the bit's position from the left
abbrev pub port_bit : Node → Option (ℕ × ℕ)
port_bit (Port port bit) = Some (port, bit)
port_bit (Pin instance port bit) = None
port_bit (Net net) = None
port_bit Zero = None
port_bit One = None

-- the first port bit
abbrev pub first_port_bit : List Node → Option (ℕ × ℕ)
first_port_bit nodes = option_and_then port_bit (find is_port_bit nodes)

-- the name of this net, else that of this port bit, else `net`
unfoldable pub name_by : List HNet → List HPort → Option ℕ → Option (ℕ × ℕ) → List ℕ
name_by nets ports (Some net) bit = name_of_net (slice_get nets net)
name_by nets ports None (Some bit) = name_of_bit (slice_get ports bit.0) bit.1
name_by nets ports None None = plain_name

-- the name of the net of a class of connected nodes: that of its first net, else that of its first port bit, else `net`
abbrev pub name_of_class : List HNet → List HPort → List Node → List ℕ
name_of_class nets ports nodes = name_by nets ports (first_net nodes) (first_port_bit nodes)

-- the names of the nets of these classes of a cell, in order
abbrev pub net_names : HCell → ClassTable → List ℕ → List (List ℕ)
net_names cell classes = map (λ class. name_of_class cell.nets cell.ports (members_of classes class))

-- a text stands beside the identifier only where it is another name
abbrev pub HasNoSpareText : NameDef → Type 0
HasNoSpareText name = name ≡ name_for name.ident (original name)
