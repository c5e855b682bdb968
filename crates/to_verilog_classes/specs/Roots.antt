-- The nodes that stand for what has a hub.
use Rattle.std.specs.Prelude.{◌≡◌, ℕ, nat_lt, false, ◌||◌, is_none, if◌then◌else◌, List, [], ◌++◌, Option, Some, None, map, filter, flat_map, take, slice_get, slice_index_or, option_to_list}
use Rattle.std.specs.List.{list_any, range_with_len}
use Rattle.std.specs.Option.{option_map_or}
use Rattle.net_bits.specs.Classes.{members_of}
use Rattle.net_bits.specs.Neighbours.{same_node}
use Rattle.net_hier.specs.Cells.{width_of}
use Rattle.net_hier.specs.declared.cells.HCell.{HCell}
use Rattle.net_hier.specs.declared.nodes.Node.{Node}
use Rattle.net_hier.specs.declared.nodes.Node.TheVariants.{Port, Pin, Net, Zero, One}
use Rattle.to_verilog_classes.specs.Groups.{GroupTable, live_class}

-- a set has the keys that it had, and these
abbrev pub AddsKeys : List Node → List Node → List Node → Type 0
AddsKeys old new added = (node : Node) → list_any (same_node node) new ≡ (list_any (same_node node) old || list_any (same_node node) added)

-- the first bit of the port of an instance of which a node is a bit
abbrev pub pin_port : Node → Option Node
pin_port (Port port bit) = None
pin_port (Pin instance port bit) = Some (Pin instance port 0)
pin_port (Net net) = None
pin_port Zero = None
pin_port One = None

-- what a class gives, where it is written
abbrev pub of_live : {A : Type 0} → GroupTable → (List Node → List A) → ℕ → List A
of_live groups part class = if slice_index_or groups.live class false then part (members_of groups.classes class) else []

-- what the classes give that are written
abbrev pub each_live : {A : Type 0} → GroupTable → (List Node → List A) → List A
each_live groups part = flat_map (of_live groups part) (range_with_len 0 groups.classes.count)

-- how many bits the port of a cell has; none where it is not there
abbrev pub port_width : HCell → ℕ → ℕ
port_width cell port = option_map_or (λ p. width_of p.range) (slice_get cell.ports port) 0

-- how many bits the port of an instance has; none where it is not there
abbrev pub pin_width : List HCell → HCell → ℕ → ℕ → ℕ
pin_width cells cell instance port = option_map_or (λ i. option_map_or (λ below. port_width below port) (slice_get cells i.cell) 0) (slice_get cell.instances instance) 0

-- the first bit of the port of an instance of which a node is a bit, where that port has several bits
abbrev pub wide_port : List HCell → HCell → Node → Option Node
wide_port cells cell (Port port bit) = None
wide_port cells cell (Pin instance port bit) = if nat_lt 1 (pin_width cells cell instance port) then Some (Pin instance port 0) else None
wide_port cells cell (Net net) = None
wide_port cells cell Zero = None
wide_port cells cell One = None

-- the ports of several bits of instances of which a bit is among the nodes
abbrev pub wide_among : List HCell → HCell → List Node → List Node
wide_among cells cell nodes = flat_map (λ node. option_to_list (wide_port cells cell node)) nodes

-- the set has the ports of several bits of instances of which a bit is written, each as its first bit
abbrev pub AreWidePorts : List HCell → HCell → GroupTable → List Node → Type 0
AreWidePorts cells cell groups ports = AddsKeys [] ports (each_live groups (wide_among cells cell))

-- the bits of a port of an instance that are in no class that is written
abbrev pub open_pins : GroupTable → ℕ → ℕ → List ℕ → List Node
open_pins groups instance port bits = filter (λ pin. is_none (live_class groups pin)) (map (λ bit. Pin instance port bit) bits)

abbrev pub open_bits : List HCell → HCell → GroupTable → Node → List Node
open_bits cells cell groups (Port port bit) = []
open_bits cells cell groups (Pin instance port bit) = open_pins groups instance port (range_with_len 0 (pin_width cells cell instance port))
open_bits cells cell groups (Net net) = []
open_bits cells cell groups Zero = []
open_bits cells cell groups One = []

-- the first node of each class that is written
abbrev pub first_members : GroupTable → List Node
first_members groups = each_live groups (take 1)

-- the nodes that stand for what has a hub
abbrev pub root_list : List HCell → HCell → GroupTable → List Node → List Node
root_list cells cell groups ports = first_members groups ++ flat_map (open_bits cells cell groups) ports
