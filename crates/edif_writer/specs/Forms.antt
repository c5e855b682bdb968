-- The written text of a file: the form of each value, a line for each.
use Rattle.std.specs.Prelude.{ℕ, ℤ, pos, zero, suc, negsuc, Bool, List, [], Option, Some, None, codes, if◌then◌else◌}
use Rattle.edif_values.specs.declared.keyword.Keyword.{Keyword}
use Rattle.edif_values.specs.declared.keyword.Keyword.TheVariants as k
use Rattle.nl_base.specs.declared.number.Scaled.{Scaled}
use Rattle.nl_base.specs.declared.value.Dir.{Dir}
use Rattle.nl_base.specs.declared.value.Dir.TheVariants as dir
use Rattle.nl_base.specs.declared.value.PropValue.{PropValue}
use Rattle.nl_base.specs.declared.value.PropValue.TheVariants as prop
use Rattle.edif_values.specs.declared.name.NameDef.{NameDef}
use Rattle.edif_values.specs.declared.name.PortName.{PortName}
use Rattle.edif_values.specs.declared.name.PortName.TheVariants as port_name
use Rattle.edif_values.specs.declared.property.PropTail.{PropTail}
use Rattle.edif_values.specs.declared.property.PropTail.TheVariants as prop_tail
use Rattle.edif_values.specs.declared.property.Property.{Property}
use Rattle.edif_values.specs.declared.user.UserTree.{UserTree}
use Rattle.edif_values.specs.declared.user.UserTree.TheFolds.{fold-UserTree}
use Rattle.edif_values.specs.declared.user.UserTree.TheOpen.{UserTree-F}
use Rattle.edif_values.specs.declared.user.UserData.{UserData}
use Rattle.edif_values.specs.declared.note.Note.{Note}
use Rattle.edif_values.specs.declared.note.Note.TheVariants as noted
use Rattle.edif_values.specs.declared.written.Stamp.{Stamp}
use Rattle.edif_values.specs.declared.written.WrittenItem.{WrittenItem}
use Rattle.edif_values.specs.declared.written.WrittenItem.TheVariants as written_item
use Rattle.edif_values.specs.declared.written.Written.{Written}
use Rattle.edif_values.specs.declared.status.StatusItem.{StatusItem}
use Rattle.edif_values.specs.declared.status.StatusItem.TheVariants as status_item
use Rattle.edif_values.specs.declared.status.Status.{Status}
use Rattle.edif_values.specs.declared.port.PortItem.{PortItem}
use Rattle.edif_values.specs.declared.port.PortItem.TheVariants as port_item
use Rattle.edif_values.specs.declared.port.Port.{Port}
use Rattle.edif_values.specs.declared.instance.InstanceItem.{InstanceItem}
use Rattle.edif_values.specs.declared.instance.InstanceItem.TheVariants as instance_item
use Rattle.edif_values.specs.declared.instance.Instance.{Instance}
use Rattle.edif_values.specs.declared.net.PortRef.{PortRef}
use Rattle.edif_values.specs.declared.net.NetItem.{NetItem}
use Rattle.edif_values.specs.declared.net.NetItem.TheVariants as net_item
use Rattle.edif_values.specs.declared.net.Net.{Net}
use Rattle.edif_values.specs.declared.view.InterfaceItem.{InterfaceItem}
use Rattle.edif_values.specs.declared.view.InterfaceItem.TheVariants as interface_item
use Rattle.edif_values.specs.declared.view.ContentsItem.{ContentsItem}
use Rattle.edif_values.specs.declared.view.ContentsItem.TheVariants as contents_item
use Rattle.edif_values.specs.declared.view.ViewItem.{ViewItem}
use Rattle.edif_values.specs.declared.view.ViewItem.TheVariants as view_item
use Rattle.edif_values.specs.declared.view.View.{View}
use Rattle.edif_values.specs.declared.cell.CellKind.{CellKind}
use Rattle.edif_values.specs.declared.cell.CellKind.TheVariants as kind
use Rattle.edif_values.specs.declared.cell.CellItem.{CellItem}
use Rattle.edif_values.specs.declared.cell.CellItem.TheVariants as cell_item
use Rattle.edif_values.specs.declared.cell.Cell.{Cell}
use Rattle.edif_values.specs.declared.library.Scale.{Scale}
use Rattle.edif_values.specs.declared.library.LibraryItem.{LibraryItem}
use Rattle.edif_values.specs.declared.library.LibraryItem.TheVariants as library_item
use Rattle.edif_values.specs.declared.library.Library.{Library}
use Rattle.edif_values.specs.declared.file.DesignItem.{DesignItem}
use Rattle.edif_values.specs.declared.file.DesignItem.TheVariants as design_item
use Rattle.edif_values.specs.declared.file.Design.{Design}
use Rattle.edif_values.specs.declared.file.FileItem.{FileItem}
use Rattle.edif_values.specs.declared.file.FileItem.TheVariants as file_item
use Rattle.edif_values.specs.declared.file.EdifFile.{EdifFile}
use Rattle.edif_writer.specs.Layout.{Form, Word, Number, Str, Line, Group, Forms, none, more, Block, Flat, Deep, below, together, each, all, laid}

-- `(keyword part)`
abbrev pub with_part : Keyword → Form → Form
with_part keyword part = Line keyword (more part none)

-- `(keyword)`
abbrev pub bare : Keyword → Form
bare keyword = Line keyword none

-- ---- names and properties

-- an identifier, or `(rename IDENT STR)` where it has a text (EDIF 2 0 0, rename)
abbrev pub renamed : List ℕ → Option (List ℕ) → Form
renamed w None = Word w
renamed w (Some s) = Line k.Rename (more (Word w) (more (Str s) none))

-- the name of an object
abbrev pub name_form : NameDef → Form
name_form n = renamed n.ident n.text

-- the name of a port, `(array NAME SIZE)` where it is an array (EDIF 2 0 0, array)
abbrev pub port_name_form : PortName → Form
port_name_form (port_name.Single n) = name_form n
port_name_form (port_name.Array n size) = Line k.Array (more (name_form n) (more (Number size) none))

-- a number by its mantissa and exponent, the mantissa alone where the exponent is 0 (EDIF 2 0 0, e)
abbrev pub scaled_by : ℤ → ℤ → Form
scaled_by m (pos zero) = Number m
scaled_by m (pos (suc n)) = Line k.E (more (Number m) (more (Number (pos (suc n))) none))
scaled_by m (negsuc n) = Line k.E (more (Number m) (more (Number (negsuc n)) none))

-- a scaled number
abbrev pub scaled_form : Scaled → Form
scaled_form s = scaled_by s.mantissa s.exponent

-- `(true)` or `(false)` (EDIF 2 0 0, boolean)
abbrev pub flag_form : Bool → Form
flag_form b = if b then bare k.True else bare k.False

-- the value of a property (EDIF 2 0 0, string, integer, number, boolean)
abbrev pub value_form : PropValue → Form
value_form (prop.Str s) = with_part k.String (Str s)
value_form (prop.Int n) = with_part k.Integer (Number n)
value_form (prop.Flag b) = with_part k.Boolean (flag_form b)
value_form (prop.Scaled s) = with_part k.Number (scaled_form s)

-- strings in a `comment` (EDIF 2 0 0, comment)
abbrev pub comment_form : List (List ℕ) → Form
comment_form texts = Line k.Comment (each Str texts)

-- what follows a property's value (EDIF 2 0 0, owner)
abbrev pub tail_form : PropTail → Form
tail_form (prop_tail.Owner s) = with_part k.Owner (Str s)
tail_form (prop_tail.Comment texts) = comment_form texts

-- a property (EDIF 2 0 0, property)
abbrev pub property_form : Property → Form
property_form p = Line k.Property (more (name_form p.name) (more (value_form p.value) (each tail_form p.tail)))

-- ---- user data, notes and status

-- a tree, from the forms of its trees
abbrev pub tree_step : UserTree-F Form → Form
tree_step (UserTree-F.Word w) = Word w
tree_step (UserTree-F.Number n) = Number n
tree_step (UserTree-F.Str s) = Str s
tree_step (UserTree-F.List fs) = Group (together fs)

-- a tree of user data
abbrev pub tree_form : UserTree → Form
tree_form = fold-UserTree Form tree_step

-- user data (EDIF 2 0 0, userData)
abbrev pub user_form : UserData → Form
user_form u = Line k.UserData (more (Word u.name) (each tree_form u.trees))

-- a note
abbrev pub note_form : Note → Form
note_form (noted.Comment texts) = comment_form texts
note_form (noted.User u) = user_form u

-- a time (EDIF 2 0 0, timeStamp)
abbrev pub stamp_form : Stamp → Form
stamp_form s = Line k.TimeStamp (more (Number s.year) (more (Number s.month) (more (Number s.day) (more (Number s.hour) (more (Number s.minute) (more (Number s.second) none))))))

-- a string, and a version if there is one (EDIF 2 0 0, version)
abbrev pub with_version : List ℕ → Option (List ℕ) → Forms
with_version s None = more (Str s) none
with_version s (Some v) = more (Str s) (more (with_part k.Version (Str v)) none)

-- what is told of a writing (EDIF 2 0 0, author, program, dataOrigin)
abbrev pub written_item_form : WrittenItem → Form
written_item_form (written_item.Author s) = with_part k.Author (Str s)
written_item_form (written_item.Program s v) = Line k.Program (with_version s v)
written_item_form (written_item.DataOrigin s v) = Line k.DataOrigin (with_version s v)
written_item_form (written_item.Note n) = note_form n

-- a writing on one line (EDIF 2 0 0, written)
abbrev pub written_form : Written → Form
written_form w = Line k.Written (more (stamp_form w.stamp) (each written_item_form w.items))

-- a part of a status on one line
abbrev pub status_item_form : StatusItem → Form
status_item_form (status_item.Written w) = written_form w
status_item_form (status_item.Note n) = note_form n

-- a status on one line, within the line of a design (EDIF 2 0 0, status)
abbrev pub status_form : Status → Form
status_form s = Line k.Status (each status_item_form s.items)

-- what is told of a writing, on a line of its own
abbrev pub written_item_block : WrittenItem → Block
written_item_block i = Flat (written_item_form i)

-- a writing
abbrev pub written_block : Written → Block
written_block w = Deep k.Written none (below (Flat (stamp_form w.stamp)) (all written_item_block w.items))

-- a part of a status
abbrev pub status_item_block : StatusItem → Block
status_item_block (status_item.Written w) = written_block w
status_item_block (status_item.Note n) = Flat (note_form n)

-- a status
abbrev pub status_block : Status → Block
status_block s = Deep k.Status none (all status_item_block s.items)

-- ---- ports, instances and nets

-- a direction's word (EDIF 2 0 0, direction)
abbrev pub dir_form : Dir → Form
dir_form dir.Input = Word (codes "INPUT")
dir_form dir.Output = Word (codes "OUTPUT")
dir_form dir.Inout = Word (codes "INOUT")

-- a designator (EDIF 2 0 0, designator)
abbrev pub designator_form : List ℕ → Form
designator_form s = with_part k.Designator (Str s)

-- a part of a port
abbrev pub port_item_form : PortItem → Form
port_item_form (port_item.Direction d) = with_part k.Direction (dir_form d)
port_item_form (port_item.Property p) = property_form p
port_item_form (port_item.Designator s) = designator_form s
port_item_form (port_item.Note n) = note_form n

-- a port (EDIF 2 0 0, port)
abbrev pub port_form : Port → Form
port_form p = Line k.Port (more (port_name_form p.name) (each port_item_form p.items))

-- a reference to a library (EDIF 2 0 0, libraryRef)
abbrev pub library_ref_form : List ℕ → Form
library_ref_form w = with_part k.LibraryRef (Word w)

-- a reference to a cell, of a library if one is named (EDIF 2 0 0, cellRef)
abbrev pub cell_ref_form : List ℕ → Option (List ℕ) → Form
cell_ref_form w None = with_part k.CellRef (Word w)
cell_ref_form w (Some l) = Line k.CellRef (more (Word w) (more (library_ref_form l) none))

-- a part of an instance
abbrev pub instance_item_form : InstanceItem → Form
instance_item_form (instance_item.Property p) = property_form p
instance_item_form (instance_item.Designator s) = designator_form s
instance_item_form (instance_item.Note n) = note_form n

-- a part of an instance on a line of its own
abbrev pub instance_item_block : InstanceItem → Block
instance_item_block i = Flat (instance_item_form i)

-- the view that an instance is of (EDIF 2 0 0, viewRef)
abbrev pub view_ref_form : Instance → Form
view_ref_form i = Line k.ViewRef (more (Word i.view) (more (cell_ref_form i.cell i.library) none))

-- an instance (EDIF 2 0 0, instance)
abbrev pub instance_block : Instance → Block
instance_block i = Deep k.Instance (more (name_form i.name) none) (below (Flat (view_ref_form i)) (all instance_item_block i.items))

-- a port, or a member of an array of ports (EDIF 2 0 0, member)
abbrev pub member_form : List ℕ → Option ℤ → Form
member_form w None = Word w
member_form w (Some n) = Line k.Member (more (Word w) (more (Number n) none))

-- a reference to an instance, if one is named (EDIF 2 0 0, instanceRef)
abbrev pub instance_ref_forms : Option (List ℕ) → Forms
instance_ref_forms None = none
instance_ref_forms (Some w) = more (with_part k.InstanceRef (Word w)) none

-- a reference to a port (EDIF 2 0 0, portRef)
abbrev pub port_ref_form : PortRef → Form
port_ref_form p = Line k.PortRef (more (member_form p.port p.member) (instance_ref_forms p.instance))

-- a reference to a port on a line of its own
abbrev pub port_ref_block : PortRef → Block
port_ref_block p = Flat (port_ref_form p)

-- a part of a net
abbrev pub net_item_block : NetItem → Block
net_item_block (net_item.Property p) = Flat (property_form p)
net_item_block (net_item.Note n) = Flat (note_form n)

-- a net (EDIF 2 0 0, net, joined)
abbrev pub net_block : Net → Block
net_block n = Deep k.Net (more (name_form n.name) none) (below (Deep k.Joined none (all port_ref_block n.joined)) (all net_item_block n.items))

-- ---- libraries, cells and the file

-- a part of an interface
abbrev pub interface_item_block : InterfaceItem → Block
interface_item_block (interface_item.Port p) = Flat (port_form p)
interface_item_block (interface_item.Property p) = Flat (property_form p)
interface_item_block (interface_item.Designator s) = Flat (designator_form s)
interface_item_block (interface_item.Note n) = Flat (note_form n)

-- a part of the contents of a view
abbrev pub contents_item_block : ContentsItem → Block
contents_item_block (contents_item.Instance i) = instance_block i
contents_item_block (contents_item.Net n) = net_block n
contents_item_block (contents_item.Note n) = Flat (note_form n)

-- a part of a view (EDIF 2 0 0, contents)
abbrev pub view_item_block : ViewItem → Block
view_item_block (view_item.Contents is) = Deep k.Contents none (all contents_item_block is)
view_item_block (view_item.Property p) = Flat (property_form p)
view_item_block (view_item.Status s) = status_block s
view_item_block (view_item.Note n) = Flat (note_form n)

-- a view of the type NETLIST (EDIF 2 0 0, view, viewType, interface)
abbrev pub view_block : View → Block
view_block v = Deep k.View (more (name_form v.name) none) (below (Flat (with_part k.ViewType (Word (codes "NETLIST")))) (below (Deep k.Interface none (all interface_item_block v.interface)) (all view_item_block v.items)))

-- the word of a cell's type
abbrev pub kind_form : CellKind → Form
kind_form kind.Generic = Word (codes "GENERIC")
kind_form kind.Tie = Word (codes "TIE")
kind_form kind.Ripper = Word (codes "RIPPER")

-- a part of a cell
abbrev pub cell_item_block : CellItem → Block
cell_item_block (cell_item.View v) = view_block v
cell_item_block (cell_item.Property p) = Flat (property_form p)
cell_item_block (cell_item.Status s) = status_block s
cell_item_block (cell_item.Note n) = Flat (note_form n)

-- a cell (EDIF 2 0 0, cell, cellType)
abbrev pub cell_block : Cell → Block
cell_block c = Deep k.Cell (more (name_form c.name) none) (below (Flat (with_part k.CellType (kind_form c.kind))) (all cell_item_block c.items))

-- what a number of a kind of unit is worth (EDIF 2 0 0, scale, unit)
abbrev pub scale_form : Scale → Form
scale_form s = Line k.Scale (more (scaled_form s.left) (more (scaled_form s.right) (more (with_part k.Unit (Word s.unit)) none)))

-- the technology of a library, with its notes on its line (EDIF 2 0 0, technology, numberDefinition)
abbrev pub technology_form : Library → Form
technology_form l = Line k.Technology (more (Line k.NumberDefinition (each scale_form l.scales)) (each note_form l.notes))

-- a part of a library
abbrev pub library_item_block : LibraryItem → Block
library_item_block (library_item.Cell c) = cell_block c
library_item_block (library_item.Status s) = status_block s
library_item_block (library_item.Note n) = Flat (note_form n)

-- the level of an EDIF text and of a library (EDIF 2 0 0, edifLevel)
abbrev pub level_form : Form
level_form = with_part k.EdifLevel (Number (pos 0))

-- the keyword of a library
abbrev pub library_keyword : Bool → Keyword
library_keyword external = if external then k.External else k.Library

-- a library, or an external one (EDIF 2 0 0, library, external)
abbrev pub library_block : Library → Block
library_block l = Deep (library_keyword l.external) (more (name_form l.name) none) (below (Flat level_form) (below (Flat (technology_form l)) (all library_item_block l.items)))

-- a part of a design
abbrev pub design_item_form : DesignItem → Form
design_item_form (design_item.Property p) = property_form p
design_item_form (design_item.Status s) = status_form s
design_item_form (design_item.Note n) = note_form n

-- a design (EDIF 2 0 0, design)
abbrev pub design_form : Design → Form
design_form d = Line k.Design (more (name_form d.name) (more (cell_ref_form d.cell (Some d.library)) (each design_item_form d.items)))

-- a part of a file
abbrev pub file_item_block : FileItem → Block
file_item_block (file_item.Library l) = library_block l
file_item_block (file_item.Design d) = Flat (design_form d)
file_item_block (file_item.Status s) = status_block s
file_item_block (file_item.Note n) = Flat (note_form n)

-- the version 2 0 0 (EDIF 2 0 0, edifVersion)
abbrev pub version_form : Form
version_form = Line k.EdifVersion (more (Number (pos 2)) (more (Number (pos 0)) (more (Number (pos 0)) none)))

-- keyword level 0, without aliases (EDIF 2 0 0, keywordMap, keywordLevel)
abbrev pub map_form : Form
map_form = with_part k.KeywordMap (with_part k.KeywordLevel (Number (pos 0)))

-- a file (EDIF 2 0 0, edif)
abbrev pub file_block : EdifFile → Block
file_block f = Deep k.Edif (more (name_form f.name) none) (below (Flat version_form) (below (Flat level_form) (below (Flat map_form) (all file_item_block f.items))))

-- the written text of a file
abbrev pub edif_text : EdifFile → List ℕ
edif_text f = laid 0 (file_block f) []
