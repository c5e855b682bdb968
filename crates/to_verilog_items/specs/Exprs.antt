-- Expressions for port bits, wires and constants (IEEE 1364-2005, 5.2.1).
use Rattle.std.specs.Prelude.{ℕ, nat_lt, List, Option, Some, None, slice_get, option_map, if◌then◌else◌}
use Rattle.std.specs.Option.{option_and_then}
use Rattle.net_hier.specs.Cells.{width_of}
use Rattle.net_hier.specs.declared.cells.HPort.{HPort}
use Rattle.vlog_values.specs.declared.expression.Expr.{Expr}
use Rattle.vlog_values.specs.declared.expression.Expr.TheVariants.{Ref}
use Rattle.vlog_values.specs.declared.expression.Select.TheVariants.{All}
use Rattle.vlog_written.specs.Written.{select_of}
use Rattle.to_verilog_wires.specs.declared.hubs.Hub.{Hub}
use Rattle.to_verilog_wires.specs.declared.hubs.Hub.TheVariants as hubs

-- the bit of the port at this position; none where it is not there
abbrev pub bit_of : HPort → ℕ → Option Expr
bit_of port bit = if nat_lt bit (width_of port.range) then Some (Ref (select_of port.range bit) port.name) else None

-- the bit of the port of this number; none where it is not there
abbrev pub port_expr : List HPort → ℕ → ℕ → Option Expr
port_expr ports port bit = option_and_then (λ p. bit_of p bit) (slice_get ports port)

-- what stands for a class: a port bit, or the wire of a number
abbrev pub hub_expr : List HPort → List (List ℕ) → Hub → Option Expr
hub_expr ports names (hubs.Port port bit) = port_expr ports port bit
hub_expr ports names (hubs.Wire wire) = option_map (λ name. Ref All name) (slice_get names wire)
