-- The design of an EDIF file that breaks none of the rules E1 to E12: what edif, library, cell, view, interface, contents, net and joined
-- of EDIF 2 0 0 say of it.
use Rattle.std.specs.Prelude.{ℕ, ◌+◌, Bool, cond, List, [], ◌∷◌, ◌++◌, map, get_or, Option, Some, None, option_map}
use Rattle.std.specs.List.{filter_map, flat_map}
use Rattle.edif_values.specs.Names.{original, port_original}
use Rattle.edif_values.specs.declared.property.Property.{Property}
use Rattle.edif_values.specs.Directions.{direction_of}
use Rattle.edif_values.specs.declared.instance.Instance.{Instance}
use Rattle.edif_values.specs.declared.instance.InstanceItem.{InstanceItem}
use Rattle.edif_values.specs.declared.instance.InstanceItem.TheVariants as instance_items
use Rattle.edif_values.specs.declared.net.Net.{Net}
use Rattle.edif_values.specs.declared.net.NetItem.{NetItem}
use Rattle.edif_values.specs.declared.net.NetItem.TheVariants as net_items
use Rattle.edif_values.specs.declared.port.Port.{Port}
use Rattle.edif_values.specs.declared.port.PortItem.{PortItem}
use Rattle.edif_values.specs.declared.port.PortItem.TheVariants as port_items
use Rattle.net_hier.specs.declared.cells.HCell.{HCell}
use Rattle.net_hier.specs.declared.cells.HInst.{HInst}
use Rattle.net_hier.specs.declared.cells.HNet.{HNet}
use Rattle.net_hier.specs.declared.cells.HPort.{HPort}
use Rattle.net_hier.specs.declared.cells.HProp.{HProp}
use Rattle.net_hier.specs.declared.nodes.Join.{Join}
use Rattle.net_hier.specs.declared.nodes.Node.TheVariants as nodes
use Rattle.edif_values.specs.declared.cell.Cell.{Cell}
use Rattle.edif_values.specs.declared.cell.CellItem.{CellItem}
use Rattle.edif_values.specs.declared.cell.CellItem.TheVariants as cell_items
use Rattle.edif_values.specs.declared.file.Design.{Design}
use Rattle.edif_values.specs.declared.file.DesignItem.{DesignItem}
use Rattle.edif_values.specs.declared.file.DesignItem.TheVariants as design_items
use Rattle.edif_values.specs.declared.file.EdifFile.{EdifFile}
use Rattle.edif_values.specs.declared.view.InterfaceItem.{InterfaceItem}
use Rattle.edif_values.specs.declared.view.InterfaceItem.TheVariants as interface_items
use Rattle.edif_values.specs.declared.view.ViewItem.{ViewItem}
use Rattle.edif_values.specs.declared.view.ViewItem.TheVariants as view_items
use Rattle.edif_design.specs.CellRules.{bit_meant}
use Rattle.edif_design.specs.Parts.{designs, instances, nets, numbered, ports}
use Rattle.edif_design.specs.Reach.{reached_cells, reached_marks}
use Rattle.edif_design.specs.References.{LinkedCell, linked_cell, number_meant, top}

-- ---- properties

-- a property under its original name
abbrev pub property_value : Property → HProp
property_value property = record { name = original property.name; value = property.value }

-- the property that a part of a port, an instance, a net or a design is
abbrev pub port_property : PortItem → Option HProp
port_property (port_items.Direction dir) = None
port_property (port_items.Property property) = Some (property_value property)
port_property (port_items.Designator text) = None
port_property (port_items.Note note) = None

abbrev pub instance_property : InstanceItem → Option HProp
instance_property (instance_items.Property property) = Some (property_value property)
instance_property (instance_items.Designator text) = None
instance_property (instance_items.Note note) = None

abbrev pub net_property : NetItem → Option HProp
net_property (net_items.Property property) = Some (property_value property)
net_property (net_items.Note note) = None

abbrev pub design_property : DesignItem → Option HProp
design_property (design_items.Property property) = Some (property_value property)
design_property (design_items.Status status) = None
design_property (design_items.Note note) = None

-- the property that a part of an interface or of a view is
abbrev pub interface_property : InterfaceItem → Option HProp
interface_property (interface_items.Port port) = None
interface_property (interface_items.Property property) = Some (property_value property)
interface_property (interface_items.Designator text) = None
interface_property (interface_items.Note note) = None

abbrev pub view_property : ViewItem → Option HProp
view_property (view_items.Contents items) = None
view_property (view_items.Property property) = Some (property_value property)
view_property (view_items.Status status) = None
view_property (view_items.Note note) = None

-- the properties of a part of a cell: those of its view are the cell's, and those of the interface stand first
abbrev pub cell_properties : CellItem → List HProp
cell_properties (cell_items.View view) = filter_map interface_property view.interface ++ filter_map view_property view.items
cell_properties (cell_items.Property property) = property_value property ∷ []
cell_properties (cell_items.Status status) = []
cell_properties (cell_items.Note note) = []

-- ---- the parts of a cell

-- a port under its original name, with its range, its direction and its properties
abbrev pub port_value : Port → HPort
port_value port = record {
  name = (port_original port.name).0;
  range = (port_original port.name).1;
  dir = direction_of port.items;
  props = filter_map port_property port.items;
}

-- the number in the design of a cell with this number in the file, by the numbers of all cells; 0 where no cell is meant
abbrev pub number_in : List ℕ → Option ℕ → ℕ
number_in numbers None = 0
number_in numbers (Some number) = get_or numbers number 0

-- the number in the file of the cell that an instance is of
abbrev pub number_below : List (Option (ℕ × Cell)) → ℕ → Option ℕ
number_below below instance = option_map (λ inner. inner.0) (get_or below instance None)

-- an instance under its original name, of the cell that it means, with its properties
abbrev pub instance_value : List ℕ → List (Option (ℕ × Cell)) → (ℕ × Instance) → HInst
instance_value numbers below instance = record {
  name = original instance.1.name;
  cell = number_in numbers (number_below below instance.0);
  props = filter_map instance_property instance.1.items;
}

-- a net under its original name, with its properties
abbrev pub net_value : Net → HNet
net_value net = record { name = original net.name; props = filter_map net_property net.items }

-- for each reference that the net of this number lists a join of the net and of the bit that is meant
abbrev pub net_joins : LinkedCell → (ℕ × Net) → List Join
net_joins linked net = map (λ bit. record { a = nodes.Net net.0; b = bit }) (filter_map (bit_meant linked) net.1.joined)

-- the value of a cell whose instances are linked, where these are the numbers of the file's cells in the design
unfoldable pub cell_value : List ℕ → LinkedCell → HCell
cell_value numbers linked = record {
  name = original linked.cell.name;
  ports = map port_value (ports linked.cell);
  instances = map (instance_value numbers linked.below) (numbered (instances linked.cell));
  nets = map net_value (nets linked.cell);
  joins = flat_map (net_joins linked) (numbered (nets linked.cell));
  props = flat_map cell_properties linked.cell.items;
}

-- ---- the design

-- for each mark how many marks that are set stand before it, where so many stand before the first
abbrev pub counts_from : ℕ → List Bool → List ℕ
counts_from count [] = []
counts_from count (mark ∷ marks) = count ∷ counts_from (count + cond mark 1 0) marks

-- for each cell of the file how many reached cells stand before it: the number in the design of a cell that is reached
abbrev pub numbers_in_design : EdifFile → List ℕ
numbers_in_design file = counts_from 0 (reached_marks file)

-- the reached cells in file order
unfoldable pub edif_cells : EdifFile → List HCell
edif_cells file = map (λ place. cell_value (numbers_in_design file) (linked_cell file place.1)) (reached_cells file)

-- the number of the top cell in the design
unfoldable pub edif_top : EdifFile → ℕ
edif_top file = number_in (numbers_in_design file) (number_meant (top file))

-- the properties of the design
abbrev pub design_properties : Design → List HProp
design_properties design = filter_map design_property design.items

abbrev pub edif_properties : EdifFile → List HProp
edif_properties file = flat_map design_properties (designs file)

-- what a design says: its cells in file order, the number of its top cell, and its own properties
pub record DesignValue : Type 0 where
  pub cells : List HCell
  pub top : ℕ
  pub props : List HProp

-- the design of a file that breaks none of the rules E1 to E12
abbrev pub edif_design : EdifFile → DesignValue
edif_design file = record { cells = edif_cells file; top = edif_top file; props = edif_properties file }
