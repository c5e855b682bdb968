-- The nets of a module by the table of its names.
use Rattle.std.specs.Prelude.{ℕ, Bool, false, not, nat_le, Some, List, [], ◌∷◌, map, filter, flat_map, if◌then◌else◌}
use Rattle.std.specs.List.{range_with_len}
use Rattle.std.specs.Option.{option_map_or}
use Rattle.nl_base.specs.Ranges.{Bounds}
use Rattle.net_hier.specs.declared.cells.HNet.{HNet}
use Rattle.vlog_design.specs.Design.{attr_props, net_name}
use Rattle.vlog_design.specs.Names.{Name, Signal, Wire, signal_named}
use Rattle.vlog_design.specs.declared.signals.SignalAt.{SignalAt}
use Rattle.vlog_design.specs.declared.signals.SignalAt.TheVariants.{AtPort, AtNet}
use Rattle.vlog_rules.specs.Redeclared.{is_port}
use Rattle.vlog_values.specs.declared.declaration.NetDecl.{NetDecl}
use Rattle.vlog_cells.specs.declared.nets.WireOf.{WireOf}

-- the net that the code keeps
abbrev pub wire_of : WireOf → Wire
wire_of wire = record { name = wire.name.now; range = wire.range; attrs = wire.attrs.now }

-- the name is that of a port
unfoldable pub names_port : List Signal → Name → Bool
names_port table name = option_map_or (λ slot. is_port slot.place) (signal_named table name) false

-- the nets of these names in a declaration that are no ports of the table
abbrev pub wires_named : List Signal → NetDecl → List Name → List Wire
wires_named table decl names = map (λ name. record { name = name; range = decl.range; attrs = decl.attrs }) (filter (λ name. not (names_port table name)) names)

-- the nets of a declaration that are no ports of the table
abbrev pub wires_by : List Signal → NetDecl → List Wire
wires_by table decl = wires_named table decl decl.names

-- the nets of declarations that are no ports of the table
abbrev pub wires_in : List Signal → List NetDecl → List Wire
wires_in table = flat_map (wires_by table)

-- a net of this number or a later one
abbrev pub is_late : ℕ → SignalAt → Bool
is_late from (AtPort number) = false
is_late from (AtNet first) = nat_le from first

-- the net of a signal of one bit, where it is one of this number or a later one
abbrev pub late_net : ℕ → Signal → List HNet
late_net from signal = if is_late from signal.slot.place then record { name = signal.name; props = [] } ∷ [] else []

-- the nets of this number and later ones
abbrev pub late_nets : ℕ → List Signal → List HNet
late_nets from = flat_map (late_net from)

-- the nets of the first bits of a wire with this range, from the left
abbrev pub bit_nets : WireOf → Bounds → ℕ → List HNet
bit_nets wire range count = map (λ bit. record { name = net_name wire.name.now (Some range) bit; props = attr_props wire.attrs.now }) (range_with_len 0 count)
