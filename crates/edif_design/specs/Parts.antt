-- The parts of a file, in the order of the text (EDIF 2 0 0, edif, library, cell, view, interface, contents).
use Rattle.std.specs.Prelude.{ℕ, List, [], Option, Some, None}
use Rattle.std.specs.List.{filter_map, flat_map, enumerate_from}
use Rattle.edif_values.specs.declared.instance.Instance.{Instance}
use Rattle.edif_values.specs.declared.net.Net.{Net}
use Rattle.edif_values.specs.declared.port.Port.{Port}
use Rattle.edif_values.specs.declared.cell.Cell.{Cell}
use Rattle.edif_values.specs.declared.cell.CellItem.{CellItem}
use Rattle.edif_values.specs.declared.cell.CellItem.TheVariants as cell_items
use Rattle.edif_values.specs.declared.file.Design.{Design}
use Rattle.edif_values.specs.declared.file.EdifFile.{EdifFile}
use Rattle.edif_values.specs.declared.file.FileItem.{FileItem}
use Rattle.edif_values.specs.declared.file.FileItem.TheVariants as file_items
use Rattle.edif_values.specs.declared.library.Library.{Library}
use Rattle.edif_values.specs.declared.library.LibraryItem.{LibraryItem}
use Rattle.edif_values.specs.declared.library.LibraryItem.TheVariants as library_items
use Rattle.edif_values.specs.declared.view.ContentsItem.{ContentsItem}
use Rattle.edif_values.specs.declared.view.ContentsItem.TheVariants as contents_items
use Rattle.edif_values.specs.declared.view.InterfaceItem.{InterfaceItem}
use Rattle.edif_values.specs.declared.view.InterfaceItem.TheVariants as interface_items
use Rattle.edif_values.specs.declared.view.View.{View}
use Rattle.edif_values.specs.declared.view.ViewItem.{ViewItem}
use Rattle.edif_values.specs.declared.view.ViewItem.TheVariants as view_items

-- the library that a part of a file is; libraries and externals share one name space
abbrev pub library_in : FileItem → Option Library
library_in (file_items.Library library) = Some library
library_in (file_items.Design design) = None
library_in (file_items.Status status) = None
library_in (file_items.Note note) = None

-- the design that a part of a file is
abbrev pub design_in : FileItem → Option Design
design_in (file_items.Library library) = None
design_in (file_items.Design design) = Some design
design_in (file_items.Status status) = None
design_in (file_items.Note note) = None

-- the cell that a part of a library is
abbrev pub cell_in : LibraryItem → Option Cell
cell_in (library_items.Cell cell) = Some cell
cell_in (library_items.Status status) = None
cell_in (library_items.Note note) = None

-- the view that a part of a cell is
abbrev pub view_in : CellItem → Option View
view_in (cell_items.View view) = Some view
view_in (cell_items.Property property) = None
view_in (cell_items.Status status) = None
view_in (cell_items.Note note) = None

-- the contents that a part of a view is
abbrev pub contents_in : ViewItem → List ContentsItem
contents_in (view_items.Contents items) = items
contents_in (view_items.Property property) = []
contents_in (view_items.Status status) = []
contents_in (view_items.Note note) = []

-- the port that a part of an interface is
abbrev pub port_in : InterfaceItem → Option Port
port_in (interface_items.Port port) = Some port
port_in (interface_items.Property property) = None
port_in (interface_items.Designator text) = None
port_in (interface_items.Note note) = None

-- the instance that a part of contents is
abbrev pub instance_in : ContentsItem → Option Instance
instance_in (contents_items.Instance instance) = Some instance
instance_in (contents_items.Net net) = None
instance_in (contents_items.Note note) = None

-- the net that a part of contents is
abbrev pub net_in : ContentsItem → Option Net
net_in (contents_items.Instance instance) = None
net_in (contents_items.Net net) = Some net
net_in (contents_items.Note note) = None

-- the libraries of some parts of a file
abbrev pub libraries_in : List FileItem → List Library
libraries_in items = filter_map library_in items

-- the libraries and the designs of a file
abbrev pub libraries : EdifFile → List Library
libraries file = libraries_in file.items

abbrev pub designs : EdifFile → List Design
designs file = filter_map design_in file.items

-- the cells of a library
abbrev pub cells_in : Library → List Cell
cells_in library = filter_map cell_in library.items

-- the views of a cell, of which there is at most one, and the parts of a view's contents
abbrev pub views : Cell → List View
views cell = filter_map view_in cell.items

abbrev pub contents : View → List ContentsItem
contents view = flat_map contents_in view.items

-- the parts of a cell's contents
abbrev pub cell_contents : Cell → List ContentsItem
cell_contents cell = flat_map contents (views cell)

-- the ports, instances and nets of a cell
abbrev pub ports : Cell → List Port
ports cell = flat_map (λ view. filter_map port_in view.interface) (views cell)

abbrev pub instances : Cell → List Instance
instances cell = filter_map instance_in (cell_contents cell)

abbrev pub nets : Cell → List Net
nets cell = filter_map net_in (cell_contents cell)

-- the items with their numbers, from 0
abbrev pub numbered : {A : Type 0} → List A → List (ℕ × A)
numbered = enumerate_from 0
