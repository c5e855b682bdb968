-- The declarations of the ports of a module (IEEE 1364-2005, 12.3.3).
use Rattle.net_hier.specs.declared.cells.HPort.{HPort}
use Rattle.to_verilog_props.specs.Written.{attrs_of}
use Rattle.vlog_written.specs.Written.{PlainPort}

-- the port as it is declared
abbrev pub plain_port : HPort → PlainPort
plain_port port = record { attrs = attrs_of port.props; dir = port.dir; range = port.range; name = port.name }
