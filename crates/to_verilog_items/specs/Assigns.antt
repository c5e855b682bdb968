-- The assigns of a module: those of port bits and constants to the hubs of their classes, or of these to port bits (IEEE 1364-2005, 6.1).
use Rattle.std.specs.Prelude.{ℕ, Bool, true, false, ◌==◌, ◌&&◌, List, Option, Some, None, flat_map, slice_get, option_to_list, if◌then◌else◌}
use Rattle.std.specs.Option.{option_and_then, option_map_or}
use Rattle.net_hier.specs.declared.cells.HPort.{HPort}
use Rattle.net_hier.specs.declared.nodes.Node.{Node}
use Rattle.net_hier.specs.declared.nodes.Node.TheVariants.{Port, Pin, Net, Zero, One}
use Rattle.vlog_values.specs.declared.expression.Expr.{Expr}
use Rattle.vlog_values.specs.declared.expression.Expr.TheVariants.{Lit}
use Rattle.vlog_values.specs.declared.statement.Assignment.{Assignment}
use Rattle.vlog_written.specs.Written.{bit_literal}
use Rattle.to_verilog_wires.specs.Hubs.{is_in}
use Rattle.to_verilog_classes.specs.Roots.{each_live}
use Rattle.to_verilog_wires.specs.Wiring.{WiringTable, hub_of}
use Rattle.to_verilog_wires.specs.declared.hubs.Hub.{Hub}
use Rattle.to_verilog_wires.specs.declared.hubs.Hub.TheVariants as hubs
use Rattle.to_verilog_items.specs.Exprs.{hub_expr, port_expr}

-- whether the hub is this port bit
abbrev pub is_port : Hub → ℕ → ℕ → Bool
is_port (hubs.Port port bit) other place = port == other && bit == place
is_port (hubs.Wire wire) other place = false

-- whether the port of this number is an input
abbrev pub is_input : List HPort → ℕ → Bool
is_input ports port = option_map_or (λ p. is_in p.dir) (slice_get ports port) false

-- whether the hub is a wire that the port of this number feeds
abbrev pub feeds : List HPort → ℕ → Hub → Bool
feeds ports port (hubs.Port other bit) = false
feeds ports port (hubs.Wire wire) = is_input ports port

-- the assign of one side to the other, where both are there
abbrev pub assigned : Option Expr → Option Expr → Option Assignment
assigned None right = None
assigned (Some left) None = None
assigned (Some left) (Some right) = Some (record { left = left; right = right })

-- the assign between a port bit and the hub of its class, where this is another
abbrev pub port_assign : List HPort → List (List ℕ) → Hub → ℕ → ℕ → Option Assignment
port_assign ports names hub port bit =
    if is_port hub port bit then None
    else if feeds ports port hub then assigned (hub_expr ports names hub) (port_expr ports port bit)
    else assigned (port_expr ports port bit) (hub_expr ports names hub)

-- the assign of a constant to the hub of its class
abbrev pub constant_assign : List HPort → List (List ℕ) → Hub → Bool → Option Assignment
constant_assign ports names hub one = assigned (hub_expr ports names hub) (Some (Lit (bit_literal one)))

-- the assign between a node and the hub of its class; none for pin bits and nets
abbrev pub member_assign : List HPort → List (List ℕ) → Hub → Node → Option Assignment
member_assign ports names hub (Port port bit) = port_assign ports names hub port bit
member_assign ports names hub (Pin instance port bit) = None
member_assign ports names hub (Net net) = None
member_assign ports names hub Zero = constant_assign ports names hub false
member_assign ports names hub One = constant_assign ports names hub true

-- that of a node with a hub
abbrev pub assign_of : List HPort → WiringTable → Node → Option Assignment
assign_of ports wiring node = option_and_then (λ hub. member_assign ports wiring.names hub node) (hub_of wiring node)

-- those of nodes, in order
abbrev pub assigns_among : List HPort → WiringTable → List Node → List Assignment
assigns_among ports wiring = flat_map (λ node. option_to_list (assign_of ports wiring node))

-- those of the classes that are written, in order
abbrev pub assigns_of : List HPort → WiringTable → List Assignment
assigns_of ports wiring = each_live wiring.groups (assigns_among ports wiring)
