-- The parts of a file that is a value, as its design looks at them.
use Rattle.std.proofs.Common.{IfSome, map}
use Rattle.std.specs.List.{AllByRecursion, filter_map, flat_map}
use Rattle.nl_base.specs.declared.value.PropValue.{PropValue}
use Rattle.nl_base.specs.declared.value.PropValue.TheVariants as values
use Rattle.edif_values.specs.Values.{IsProperty, IsPropValue, IsInstance, IsInstanceItem, IsNet, IsNetItem, IsPort, IsPortItem, IsCell, IsCellItem, IsContentsItem, IsDesign, IsDesignItem, IsEdifValue, IsFileItem, IsInterfaceItem, IsLibrary, IsLibraryItem, IsView, IsViewItem}
use Rattle.edif_values.specs.declared.property.Property.{Property}
use Rattle.edif_values.specs.declared.instance.Instance.{Instance}
use Rattle.edif_values.specs.declared.instance.InstanceItem.{InstanceItem}
use Rattle.edif_values.specs.declared.instance.InstanceItem.TheVariants as instance_items
use Rattle.edif_values.specs.declared.net.Net.{Net}
use Rattle.edif_values.specs.declared.net.NetItem.{NetItem}
use Rattle.edif_values.specs.declared.net.NetItem.TheVariants as net_items
use Rattle.edif_values.specs.declared.port.Port.{Port}
use Rattle.edif_values.specs.declared.port.PortItem.{PortItem}
use Rattle.edif_values.specs.declared.port.PortItem.TheVariants as port_items
use Rattle.edif_values.specs.declared.cell.Cell.{Cell}
use Rattle.edif_values.specs.declared.cell.CellItem.{CellItem}
use Rattle.edif_values.specs.declared.cell.CellItem.TheVariants as cell_items
use Rattle.edif_values.specs.declared.file.DesignItem.{DesignItem}
use Rattle.edif_values.specs.declared.file.DesignItem.TheVariants as design_items
use Rattle.edif_values.specs.declared.file.EdifFile.{EdifFile}
use Rattle.edif_values.specs.declared.file.FileItem.{FileItem}
use Rattle.edif_values.specs.declared.file.FileItem.TheVariants as file_items
use Rattle.edif_values.specs.declared.library.LibraryItem.{LibraryItem}
use Rattle.edif_values.specs.declared.library.LibraryItem.TheVariants as library_items
use Rattle.edif_values.specs.declared.view.ContentsItem.{ContentsItem}
use Rattle.edif_values.specs.declared.view.ContentsItem.TheVariants as contents_items
use Rattle.edif_values.specs.declared.view.InterfaceItem.{InterfaceItem}
use Rattle.edif_values.specs.declared.view.InterfaceItem.TheVariants as interface_items
use Rattle.edif_values.specs.declared.view.ViewItem.{ViewItem}
use Rattle.edif_values.specs.declared.view.ViewItem.TheVariants as view_items
use Rattle.edif_design.specs.Design.{cell_properties, design_property, design_properties, edif_properties, instance_property, interface_property, net_property, port_property, property_value, view_property}
use Rattle.edif_design.specs.Parts.{cell_contents, cell_in, cells_in, contents, contents_in, design_in, designs, instance_in, instances, libraries, library_in, net_in, nets, numbered, port_in, ports, view_in, views}
use Rattle.edif_design.specs.References.{all_cells, place_in}
use Rattle.net_hier.specs.declared.cells.HProp.{HProp}
use Rattle.net_values.specs.Sound.{AreSoundProps, IsSoundValue}
use Rattle.edif_design_laws.proofs.Lists.{all_append, all_flat, all_map, all_numbered, all_some}

-- ---- properties

abbrev pub IsSoundProp : HProp → Type 0
IsSoundProp prop = IsSoundValue prop.value

value_sound : (value : PropValue) → IsPropValue value → IsSoundValue value
value_sound (values.Str s) h = record { bytes = h.0; short = h.1 }
value_sound (values.Int n) h = h
value_sound (values.Flag b) h = tt
value_sound (values.Scaled r) h = record { mantissa = h.mantissa; exponent = h.exponent }

property_sound : (property : Property) → IsProperty property → IsSoundProp (property_value property)
property_sound property h = value_sound property.value h.value

port_item : (item : PortItem) → IsPortItem item → IfSome (port_property item) IsSoundProp
port_item (port_items.Direction dir) h = tt
port_item (port_items.Property property) h = property_sound property h
port_item (port_items.Designator text) h = tt
port_item (port_items.Note note) h = tt

instance_item : (item : InstanceItem) → IsInstanceItem item → IfSome (instance_property item) IsSoundProp
instance_item (instance_items.Property property) h = property_sound property h
instance_item (instance_items.Designator text) h = tt
instance_item (instance_items.Note note) h = tt

net_item : (item : NetItem) → IsNetItem item → IfSome (net_property item) IsSoundProp
net_item (net_items.Property property) h = property_sound property h
net_item (net_items.Note note) h = tt

design_item : (item : DesignItem) → IsDesignItem item → IfSome (design_property item) IsSoundProp
design_item (design_items.Property property) h = property_sound property h
design_item (design_items.Status status) h = tt
design_item (design_items.Note note) h = tt

interface_item : (item : InterfaceItem) → IsInterfaceItem item → IfSome (interface_property item) IsSoundProp
interface_item (interface_items.Port port) h = tt
interface_item (interface_items.Property property) h = property_sound property h
interface_item (interface_items.Designator text) h = tt
interface_item (interface_items.Note note) h = tt

view_item : (item : ViewItem) → IsViewItem item → IfSome (view_property item) IsSoundProp
view_item (view_items.Contents items) h = tt
view_item (view_items.Property property) h = property_sound property h
view_item (view_items.Status status) h = tt
view_item (view_items.Note note) h = tt

cell_item : (item : CellItem) → IsCellItem item → AreSoundProps (cell_properties item)
cell_item (cell_items.View view) h =
    all_append IsSoundProp (filter_map interface_property view.interface) (filter_map view_property view.items) (all_some IsInterfaceItem IsSoundProp interface_property interface_item view.interface h.interface)
    (all_some IsViewItem IsSoundProp view_property view_item view.items h.items)
cell_item (cell_items.Property property) h = (property_sound property h, tt)
cell_item (cell_items.Status status) h = tt
cell_item (cell_items.Note note) h = tt

pub port_props : (port : Port) → IsPort port → AreSoundProps (filter_map port_property port.items)
port_props port h = all_some IsPortItem IsSoundProp port_property port_item port.items h.items.0

pub instance_props : (instance : Instance) → IsInstance instance → AreSoundProps (filter_map instance_property instance.items)
instance_props instance h = all_some IsInstanceItem IsSoundProp instance_property instance_item instance.items h.items

pub net_props : (net : Net) → IsNet net → AreSoundProps (filter_map net_property net.items)
net_props net h = all_some IsNetItem IsSoundProp net_property net_item net.items h.items

pub cell_props : (cell : Cell) → IsCell cell → AreSoundProps (flat_map cell_properties cell.items)
cell_props cell h = all_flat IsCellItem IsSoundProp cell_properties cell_item cell.items h.items

-- ---- the parts of a cell

view_of : (item : CellItem) → IsCellItem item → IfSome (view_in item) IsView
view_of (cell_items.View view) h = h
view_of (cell_items.Property property) h = tt
view_of (cell_items.Status status) h = tt
view_of (cell_items.Note note) h = tt

views_good : (cell : Cell) → IsCell cell → AllByRecursion IsView (views cell)
views_good cell h = all_some IsCellItem IsView view_in view_of cell.items h.items

contents_of : (item : ViewItem) → IsViewItem item → AllByRecursion IsContentsItem (contents_in item)
contents_of (view_items.Contents items) h = h
contents_of (view_items.Property property) h = tt
contents_of (view_items.Status status) h = tt
contents_of (view_items.Note note) h = tt

contents_good : (cell : Cell) → IsCell cell → AllByRecursion IsContentsItem (cell_contents cell)
contents_good cell h = all_flat IsView IsContentsItem contents (λ view good. all_flat IsViewItem IsContentsItem contents_in contents_of view.items good.items) (views cell) (views_good cell h)

port_of : (item : InterfaceItem) → IsInterfaceItem item → IfSome (port_in item) IsPort
port_of (interface_items.Port port) h = h
port_of (interface_items.Property property) h = tt
port_of (interface_items.Designator text) h = tt
port_of (interface_items.Note note) h = tt

instance_of : (item : ContentsItem) → IsContentsItem item → IfSome (instance_in item) IsInstance
instance_of (contents_items.Instance instance) h = h
instance_of (contents_items.Net net) h = tt
instance_of (contents_items.Note note) h = tt

net_of : (item : ContentsItem) → IsContentsItem item → IfSome (net_in item) IsNet
net_of (contents_items.Instance instance) h = tt
net_of (contents_items.Net net) h = h
net_of (contents_items.Note note) h = tt

pub ports_good : (cell : Cell) → IsCell cell → AllByRecursion IsPort (ports cell)
ports_good cell h = all_flat IsView IsPort (λ view. filter_map port_in view.interface) (λ view good. all_some IsInterfaceItem IsPort port_in port_of view.interface good.interface) (views cell) (views_good cell h)

pub instances_good : (cell : Cell) → IsCell cell → AllByRecursion IsInstance (instances cell)
instances_good cell h = all_some IsContentsItem IsInstance instance_in instance_of (cell_contents cell) (contents_good cell h)

pub nets_good : (cell : Cell) → IsCell cell → AllByRecursion IsNet (nets cell)
nets_good cell h = all_some IsContentsItem IsNet net_in net_of (cell_contents cell) (contents_good cell h)

-- ---- the parts of a file

library_of : (item : FileItem) → IsFileItem item → IfSome (library_in item) IsLibrary
library_of (file_items.Library library) h = h
library_of (file_items.Design design) h = tt
library_of (file_items.Status status) h = tt
library_of (file_items.Note note) h = tt

design_of : (item : FileItem) → IsFileItem item → IfSome (design_in item) IsDesign
design_of (file_items.Library library) h = tt
design_of (file_items.Design design) h = h
design_of (file_items.Status status) h = tt
design_of (file_items.Note note) h = tt

cell_of : (item : LibraryItem) → IsLibraryItem item → IfSome (cell_in item) IsCell
cell_of (library_items.Cell cell) h = h
cell_of (library_items.Status status) h = tt
cell_of (library_items.Note note) h = tt

module _ (file : EdifFile) (good : IsEdifValue file) where
  pub cells_good : AllByRecursion (λ place. IsCell place.cell) (all_cells file)
  cells_good = all_flat (λ library. IsLibrary library.1) (λ place. IsCell place.cell) (λ library. map (place_in library.0) (cells_in library.1))
      (λ library h. all_map IsCell (λ place. IsCell place.cell) (place_in library.0) (λ cell k. k) (cells_in library.1) (all_some IsLibraryItem IsCell cell_in cell_of library.1.items h.items))
      (numbered (libraries file)) (all_numbered IsLibrary 0 (libraries file) (all_some IsFileItem IsLibrary library_in library_of file.items good.items))

  pub design_props : AreSoundProps (edif_properties file)
  design_props = all_flat IsDesign IsSoundProp design_properties (λ design h. all_some IsDesignItem IsSoundProp design_property design_item design.items h.items) (designs file) (all_some IsFileItem IsDesign design_in design_of file.items good.items)
