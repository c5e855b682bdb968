-- What the ports, wires and instances of a plain module are in its cell.
use Rattle.std.specs.Prelude.{◌++◌, List, map}
use Rattle.net_hier.specs.declared.cells.HCell.{HCell}
use Rattle.net_hier.specs.declared.cells.HInst.{HInst}
use Rattle.net_hier.specs.declared.cells.HNet.{HNet}
use Rattle.net_hier.specs.declared.cells.HPort.{HPort}
use Rattle.vlog_design.specs.Design.{attr_props, module_joins, param_props}
use Rattle.vlog_design.specs.Reach.{module_number}
use Rattle.vlog_values.specs.declared.module.Module.{Module}
use Rattle.vlog_written.specs.Written.{PlainInstance, PlainModule, PlainPort, PlainWire, plain_module}

-- a port
abbrev pub port_in_cell : PlainPort → HPort
port_in_cell port = record { name = port.name; range = port.range; dir = port.dir; props = attr_props port.attrs }

-- the net of a wire
abbrev pub net_in_cell : PlainWire → HNet
net_in_cell wire = record { name = wire.name; props = attr_props wire.attrs }

-- an instance: its properties are the attributes, and then the parameters
abbrev pub instance_in_cell : List Module → PlainInstance → HInst
instance_in_cell modules instance = record { name = instance.name; cell = module_number modules instance.of; props = attr_props instance.attrs ++ param_props instance.params }

-- the cell of a plain module among these modules
abbrev pub plain_cell : List Module → PlainModule → HCell
plain_cell modules p = record {
  name = p.name;
  ports = map port_in_cell p.ports;
  instances = map (instance_in_cell modules) p.instances;
  nets = map net_in_cell p.wires;
  joins = module_joins modules (plain_module p);
  props = attr_props p.attrs;
}
