-- What a terminal does to those that are connected to it, by the direction of its port.
use Rattle.std.specs.Prelude.{List, Bool, true, false, Option, Some, None}
use Rattle.nl_base.specs.declared.value.Dir.{Dir}
use Rattle.nl_base.specs.declared.value.Dir.TheVariants.{Input, Output, Inout}
use Rattle.net_hier.specs.declared.cells.HCell.{HCell}
use Rattle.net_hier.specs.declared.cells.HPort.{HPort}
use Rattle.flat_numbers.specs.declared.spots.Spot.{Spot}
use Rattle.flat_classes.specs.declared.flat.Terminal.{Terminal}
use Rattle.flat_classes.specs.declared.flat.Terminal.TheVariants as terminals
use Rattle.flat_report.specs.Report.{port_of}
use Rattle.net_lint.specs.declared.role.Role.{Role}
use Rattle.net_lint.specs.declared.role.Role.TheVariants.{Driver, Sink, Both}

-- a port of the top: an input drives, an output is driven
abbrev pub port_role : Dir → Role
port_role Input = Driver
port_role Output = Sink
port_role Inout = Both

-- a pin of a leaf: an output drives, an input is driven
abbrev pub pin_role : Dir → Role
pin_role Input = Sink
pin_role Output = Driver
pin_role Inout = Both

-- the role by the direction of the port, where there is one
abbrev pub role_by : (Dir → Role) → Option HPort → Role
role_by role None = Both
role_by role (Some port) = role port.dir

-- the role of a terminal; the two constants drive
abbrev pub role_of : List HCell → List Spot → Terminal → Role
role_of cells spots (terminals.Port port bit) = role_by port_role (port_of cells spots 0 port)
role_of cells spots (terminals.Pin spot port bit) = role_by pin_role (port_of cells spots spot port)
role_of cells spots terminals.Zero = Driver
role_of cells spots terminals.One = Driver

-- whether this is a driver
abbrev pub is_driver : Role → Bool
is_driver Driver = true
is_driver Sink = false
is_driver Both = false

-- whether this is a sink
abbrev pub is_sink : Role → Bool
is_sink Driver = false
is_sink Sink = true
is_sink Both = false
