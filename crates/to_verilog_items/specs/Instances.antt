-- The instances of a module and what they connect (IEEE 1364-2005, 12.1.2 and 12.3.6).
use Rattle.std.specs.Prelude.{ℕ, ◌==◌, List, [], Option, Some, None, map, flat_map, slice_get, option_to_list, if◌then◌else◌}
use Rattle.std.specs.List.{enumerate_from, range_with_len}
use Rattle.std.specs.Option.{option_and_then, option_map_or}
use Rattle.net_bits.specs.Names.{NameSet}
use Rattle.net_hier.specs.Cells.{width_of}
use Rattle.net_hier.specs.declared.cells.HCell.{HCell}
use Rattle.net_hier.specs.declared.cells.HInst.{HInst}
use Rattle.net_hier.specs.declared.cells.HPort.{HPort}
use Rattle.net_hier.specs.declared.nodes.Node.{Node}
use Rattle.net_hier.specs.declared.nodes.Node.TheVariants.{Pin}
use Rattle.net_live.specs.Last.{last_of}
use Rattle.to_verilog_props.specs.Written.{given_attrs, given_params}
use Rattle.vlog_values.specs.declared.expression.Expr.{Expr}
use Rattle.vlog_values.specs.declared.expression.Expr.TheVariants.{Cat}
use Rattle.vlog_values.specs.declared.statement.NamedConn.{NamedConn}
use Rattle.vlog_written.specs.Written.{PlainInstance}
use Rattle.to_verilog_wires.specs.Wiring.{WiringTable, hub_of, is_written}
use Rattle.to_verilog_items.specs.Exprs.{hub_expr}

-- what stands for a pin bit
abbrev pub pin_expr : List HPort → WiringTable → Node → Option Expr
pin_expr ports wiring pin = option_and_then (hub_expr ports wiring.names) (hub_of wiring pin)

-- what stands for the bits of a port of an instance, from the left
abbrev pub pin_exprs : List HPort → WiringTable → ℕ → ℕ → List ℕ → List Expr
pin_exprs ports wiring instance port bits = flat_map (λ bit. option_to_list (pin_expr ports wiring (Pin instance port bit))) bits

-- what a port of so many bits is connected to: what stands for its bit where it has one, else the concatenation of its bits where one of them is written
abbrev pub connected : List HPort → WiringTable → ℕ → ℕ → ℕ → Option Expr
connected ports wiring instance port width =
    if width == 1 then pin_expr ports wiring (Pin instance port 0)
    else if is_written wiring (Pin instance port 0) then Some (Cat (pin_exprs ports wiring instance port (range_with_len 0 width)))
    else None

-- the connection of the port of this number
abbrev pub conn_of : List HPort → WiringTable → ℕ → (ℕ × HPort) → NamedConn
conn_of ports wiring instance below = record { port = below.1.name; value = connected ports wiring instance below.0 (width_of below.1.range) }

-- the connections of an instance: each port of its cell, in order
abbrev pub conns_of : List HPort → WiringTable → ℕ → List HPort → List NamedConn
conns_of ports wiring instance below = map (conn_of ports wiring instance) (enumerate_from 0 below)

-- the name and the ports of the cell of an instance
abbrev pub below_name : List HCell → HInst → List ℕ
below_name cells instance = option_map_or (λ below. below.name) (slice_get cells instance.cell) []

abbrev pub below_ports : List HCell → HInst → List HPort
below_ports cells instance = option_map_or (λ below. below.ports) (slice_get cells instance.cell) []

-- the instance of this number, with its statement
abbrev pub instance_of : List HCell → List HPort → WiringTable → NameSet → (ℕ × HInst) → PlainInstance
instance_of cells ports wiring params instance = record {
  attrs = given_attrs params (last_of instance.1.props);
  of = below_name cells instance.1;
  params = given_params params (last_of instance.1.props);
  name = instance.1.name;
  conns = conns_of ports wiring instance.0 (below_ports cells instance.1);
}

-- the instances of a cell, in order
abbrev pub instances_of : List HCell → HCell → WiringTable → NameSet → List PlainInstance
instances_of cells cell wiring params = map (instance_of cells cell.ports wiring params) (enumerate_from 0 cell.instances)
