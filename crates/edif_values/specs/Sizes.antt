-- The size of a file: the number of items in all its lists at every depth. The bytes of a text are no items.
use Rattle.std.specs.Prelude.{ℕ, ◌+◌, List, length, sum, sum_by}
use Rattle.edif_values.specs.declared.property.PropTail.{PropTail}
use Rattle.edif_values.specs.declared.property.PropTail.TheVariants as tail
use Rattle.edif_values.specs.declared.property.Property.{Property}
use Rattle.edif_values.specs.declared.user.UserTree.{UserTree}
use Rattle.edif_values.specs.declared.user.UserTree.TheFolds.{fold-UserTree}
use Rattle.edif_values.specs.declared.user.UserTree.TheOpen.{UserTree-F}
use Rattle.edif_values.specs.declared.note.Note.{Note}
use Rattle.edif_values.specs.declared.note.Note.TheVariants as notes
use Rattle.edif_values.specs.declared.written.WrittenItem.{WrittenItem}
use Rattle.edif_values.specs.declared.written.WrittenItem.TheVariants as written_items
use Rattle.edif_values.specs.declared.written.Written.{Written}
use Rattle.edif_values.specs.declared.status.StatusItem.{StatusItem}
use Rattle.edif_values.specs.declared.status.StatusItem.TheVariants as status_items
use Rattle.edif_values.specs.declared.status.Status.{Status}
use Rattle.edif_values.specs.declared.port.PortItem.{PortItem}
use Rattle.edif_values.specs.declared.port.PortItem.TheVariants as port_items
use Rattle.edif_values.specs.declared.port.Port.{Port}
use Rattle.edif_values.specs.declared.instance.InstanceItem.{InstanceItem}
use Rattle.edif_values.specs.declared.instance.InstanceItem.TheVariants as instance_items
use Rattle.edif_values.specs.declared.instance.Instance.{Instance}
use Rattle.edif_values.specs.declared.net.NetItem.{NetItem}
use Rattle.edif_values.specs.declared.net.NetItem.TheVariants as net_items
use Rattle.edif_values.specs.declared.net.Net.{Net}
use Rattle.edif_values.specs.declared.view.InterfaceItem.{InterfaceItem}
use Rattle.edif_values.specs.declared.view.InterfaceItem.TheVariants as interface_items
use Rattle.edif_values.specs.declared.view.ContentsItem.{ContentsItem}
use Rattle.edif_values.specs.declared.view.ContentsItem.TheVariants as contents_items
use Rattle.edif_values.specs.declared.view.ViewItem.{ViewItem}
use Rattle.edif_values.specs.declared.view.ViewItem.TheVariants as view_items
use Rattle.edif_values.specs.declared.view.View.{View}
use Rattle.edif_values.specs.declared.cell.CellItem.{CellItem}
use Rattle.edif_values.specs.declared.cell.CellItem.TheVariants as cell_items
use Rattle.edif_values.specs.declared.cell.Cell.{Cell}
use Rattle.edif_values.specs.declared.library.LibraryItem.{LibraryItem}
use Rattle.edif_values.specs.declared.library.LibraryItem.TheVariants as library_items
use Rattle.edif_values.specs.declared.library.Library.{Library}
use Rattle.edif_values.specs.declared.file.DesignItem.{DesignItem}
use Rattle.edif_values.specs.declared.file.DesignItem.TheVariants as design_items
use Rattle.edif_values.specs.declared.file.Design.{Design}
use Rattle.edif_values.specs.declared.file.FileItem.{FileItem}
use Rattle.edif_values.specs.declared.file.FileItem.TheVariants as file_items
use Rattle.edif_values.specs.declared.file.EdifFile.{EdifFile}

-- the items of a list, and those in the lists of its items
abbrev pub list_size : {A : Type 0} → (A → ℕ) → List A → ℕ
list_size size xs = sum_by size xs + length xs

-- ---- properties, notes and status

-- what may follow the value of a property
abbrev pub tail_size : PropTail → ℕ
tail_size (tail.Owner s) = 0
tail_size (tail.Comment ts) = length ts

-- a property
abbrev pub property_size : Property → ℕ
property_size p = list_size tail_size p.tail

-- a tree of user data, by those of its trees
abbrev pub tree_step : UserTree-F ℕ → ℕ
tree_step (UserTree-F.Word w) = 0
tree_step (UserTree-F.Number n) = 0
tree_step (UserTree-F.Str s) = 0
tree_step (UserTree-F.List ns) = sum ns + length ns

-- a tree of user data
unfoldable pub tree_size : UserTree → ℕ
tree_size = fold-UserTree ℕ tree_step

-- a note
abbrev pub note_size : Note → ℕ
note_size (notes.Comment ts) = length ts
note_size (notes.User u) = list_size tree_size u.trees

-- a part of a writing
abbrev pub written_item_size : WrittenItem → ℕ
written_item_size (written_items.Author s) = 0
written_item_size (written_items.Program s v) = 0
written_item_size (written_items.DataOrigin s v) = 0
written_item_size (written_items.Note n) = note_size n

-- a writing
abbrev pub written_size : Written → ℕ
written_size w = list_size written_item_size w.items

-- a part of a status
abbrev pub status_item_size : StatusItem → ℕ
status_item_size (status_items.Written w) = written_size w
status_item_size (status_items.Note n) = note_size n

-- a status
abbrev pub status_size : Status → ℕ
status_size s = list_size status_item_size s.items

-- ---- ports, instances and nets

-- a part of a port
abbrev pub port_item_size : PortItem → ℕ
port_item_size (port_items.Direction d) = 0
port_item_size (port_items.Property p) = property_size p
port_item_size (port_items.Designator s) = 0
port_item_size (port_items.Note n) = note_size n

-- a port
abbrev pub port_size : Port → ℕ
port_size p = list_size port_item_size p.items

-- a part of an instance
abbrev pub instance_item_size : InstanceItem → ℕ
instance_item_size (instance_items.Property p) = property_size p
instance_item_size (instance_items.Designator s) = 0
instance_item_size (instance_items.Note n) = note_size n

-- an instance
abbrev pub instance_size : Instance → ℕ
instance_size u = list_size instance_item_size u.items

-- a part of a net
abbrev pub net_item_size : NetItem → ℕ
net_item_size (net_items.Property p) = property_size p
net_item_size (net_items.Note n) = note_size n

-- a net
abbrev pub net_size : Net → ℕ
net_size n = list_size net_item_size n.items + length n.joined

-- ---- views and cells

-- a part of an interface
abbrev pub interface_item_size : InterfaceItem → ℕ
interface_item_size (interface_items.Port p) = port_size p
interface_item_size (interface_items.Property p) = property_size p
interface_item_size (interface_items.Designator s) = 0
interface_item_size (interface_items.Note n) = note_size n

-- a part of contents
abbrev pub contents_item_size : ContentsItem → ℕ
contents_item_size (contents_items.Instance u) = instance_size u
contents_item_size (contents_items.Net n) = net_size n
contents_item_size (contents_items.Note n) = note_size n

-- a part of a view
abbrev pub view_item_size : ViewItem → ℕ
view_item_size (view_items.Contents is) = list_size contents_item_size is
view_item_size (view_items.Property p) = property_size p
view_item_size (view_items.Status s) = status_size s
view_item_size (view_items.Note n) = note_size n

-- a view
abbrev pub view_size : View → ℕ
view_size v = list_size interface_item_size v.interface + list_size view_item_size v.items

-- a part of a cell
abbrev pub cell_item_size : CellItem → ℕ
cell_item_size (cell_items.View v) = view_size v
cell_item_size (cell_items.Property p) = property_size p
cell_item_size (cell_items.Status s) = status_size s
cell_item_size (cell_items.Note n) = note_size n

-- a cell
abbrev pub cell_size : Cell → ℕ
cell_size c = list_size cell_item_size c.items

-- ---- libraries, designs and the file

-- a part of a library
abbrev pub library_item_size : LibraryItem → ℕ
library_item_size (library_items.Cell c) = cell_size c
library_item_size (library_items.Status s) = status_size s
library_item_size (library_items.Note n) = note_size n

-- a library
abbrev pub library_size : Library → ℕ
library_size l = list_size library_item_size l.items + list_size note_size l.notes + length l.scales

-- a part of a design
abbrev pub design_item_size : DesignItem → ℕ
design_item_size (design_items.Property p) = property_size p
design_item_size (design_items.Status s) = status_size s
design_item_size (design_items.Note n) = note_size n

-- a design
abbrev pub design_size : Design → ℕ
design_size d = list_size design_item_size d.items

-- a part of a file
abbrev pub file_item_size : FileItem → ℕ
file_item_size (file_items.Library l) = library_size l
file_item_size (file_items.Design d) = design_size d
file_item_size (file_items.Status s) = status_size s
file_item_size (file_items.Note n) = note_size n

-- a file
abbrev pub edif_size : EdifFile → ℕ
edif_size f = list_size file_item_size f.items
