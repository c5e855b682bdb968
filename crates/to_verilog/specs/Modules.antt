-- The module of a cell.
use Rattle.std.specs.Prelude.{◌≡◌, ℕ, List, [], map, filter, Contains}
use Rattle.net_bits.specs.Names.{NameSet}
use Rattle.net_hier.specs.Design.{Design, IsCell}
use Rattle.net_hier.specs.Facts.{cell_props}
use Rattle.net_hier.specs.declared.cells.HCell.{HCell}
use Rattle.net_hier.specs.declared.cells.HInst.{HInst}
use Rattle.to_verilog_props.specs.Written.{HaveNoFlags, attrs_of}
use Rattle.to_verilog_wires.specs.IsWiring.{IsWiring}
use Rattle.to_verilog_wires.specs.Wiring.{WiringTable}
use Rattle.to_verilog_items.specs.Assigns.{assigns_of}
use Rattle.to_verilog_items.specs.Header.{plain_port}
use Rattle.to_verilog_items.specs.Instances.{instances_of}
use Rattle.vlog_design.specs.Names.{has_name}
use Rattle.vlog_values.specs.declared.module.ItemV.{ItemV}
use Rattle.vlog_values.specs.declared.module.Module.{Module}
use Rattle.vlog_written.specs.Written.{PlainModule, PlainWire, plain_items, plain_module}

-- what the rules of Verilog as a target ask of a cell: no port has the name of an instance, and no property that is to be a parameter has a
-- boolean as its last value
pub record IsWritable (params : NameSet) (cell : HCell) : Type 0 where
  pub apart : filter (has_name (map (λ instance. instance.name) cell.instances)) (map (λ port. port.name) cell.ports) ≡ []
  pub no_flags : (instance : HInst) → Contains cell.instances instance → HaveNoFlags params instance.props

-- the module of a cell whose wires these are
abbrev pub plain_of : Design → NameSet → ℕ → HCell → WiringTable → List PlainWire → PlainModule
plain_of design params number cell wiring wires = record {
  attrs = attrs_of (cell_props design number cell);
  name = cell.name;
  ports = map plain_port cell.ports;
  wires = wires;
  assigns = assigns_of cell.ports wiring;
  instances = instances_of design.cells cell wiring params;
}

-- the items of the module of a cell, and its wiring
pub record AreItems (design : Design) (params : NameSet) (number : ℕ) (cell : HCell) (items : List ItemV) : Type 0 where
  pub wiring : WiringTable
  pub decls : List ItemV
  pub is_wiring : IsWiring design.cells cell wiring decls
  pub items_are : items ≡ plain_items (plain_of design params number cell wiring is_wiring.wires)

-- the module is a plain one: it declares the cell's ports, its wires are those of a wiring of the cell, its assigns and its instances connect what the wiring says, and
-- each object has the last value of each of its properties
pub record IsModuleOf (design : Design) (params : NameSet) (number : ℕ) (made : Module) : Type 0 where
  pub cell : HCell
  pub is_cell : IsCell design.cells number cell
  pub wiring : WiringTable
  pub decls : List ItemV
  pub is_wiring : IsWiring design.cells cell wiring decls
  pub is_plain : made ≡ plain_module (plain_of design params number cell wiring is_wiring.wires)
