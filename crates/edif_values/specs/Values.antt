-- The values that are read from a text or can be written: their words are identifiers of at most 1,024 bytes, their numbers have an absolute
-- value of at most 2^63-1, their strings have at most 1,048,576 bytes, lists of user data are at most 64 deep, a port has at most one
-- direction, a view has at most one contents, and a cell has at most one view.
use Rattle.std.specs.Prelude.{Bool, true, false, ℕ, ℤ, List, ⊤, IfSome, suc, ◌≤◌, max, fold, [], ◌∷◌, ◌++◌, Option, Some, None, length}
use Rattle.std.specs.List.{AllByRecursion, filter}
use Rattle.nl_base.specs.declared.number.Scaled.{Scaled}
use Rattle.nl_base.specs.declared.value.PropValue.{PropValue}
use Rattle.nl_base.specs.declared.value.PropValue.TheVariants as values
use Rattle.edif_values.specs.declared.token.Token.TheVariants.{Word, Number, Str}
use Rattle.edif_values.specs.declared.token.Token.{Token}
use Rattle.edif_values.specs.declared.token.Token.TheVariants as token
use Rattle.edif_values.specs.declared.name.NameDef.{NameDef}
use Rattle.edif_values.specs.declared.name.PortName.{PortName}
use Rattle.edif_values.specs.declared.name.PortName.TheVariants.{Single, Array}
use Rattle.edif_values.specs.declared.property.PropTail.{PropTail}
use Rattle.edif_values.specs.declared.property.PropTail.TheVariants as tail
use Rattle.edif_values.specs.declared.property.Property.{Property}
use Rattle.edif_values.specs.declared.user.UserTree.{UserTree}
use Rattle.edif_values.specs.declared.user.UserTree.TheFolds.{fold-UserTree}
use Rattle.edif_values.specs.declared.user.UserTree.TheOpen.{UserTree-F}
use Rattle.edif_values.specs.declared.user.UserData.{UserData}
use Rattle.edif_values.specs.declared.note.Note.{Note}
use Rattle.edif_values.specs.declared.note.Note.TheVariants as notes
use Rattle.edif_values.specs.declared.written.Stamp.{Stamp}
use Rattle.edif_values.specs.declared.written.WrittenItem.{WrittenItem}
use Rattle.edif_values.specs.declared.written.WrittenItem.TheVariants as written_items
use Rattle.edif_values.specs.declared.written.Written.{Written}
use Rattle.edif_values.specs.declared.status.StatusItem.{StatusItem}
use Rattle.edif_values.specs.declared.status.StatusItem.TheVariants as status_items
use Rattle.edif_values.specs.declared.status.Status.{Status}
use Rattle.edif_values.specs.declared.port.PortItem.{PortItem}
use Rattle.edif_values.specs.declared.port.PortItem.TheVariants as port_items
use Rattle.edif_values.specs.declared.port.Port.{Port}
use Rattle.edif_values.specs.declared.instance.InstanceItem.{InstanceItem}
use Rattle.edif_values.specs.declared.instance.InstanceItem.TheVariants as instance_items
use Rattle.edif_values.specs.declared.instance.Instance.{Instance}
use Rattle.edif_values.specs.declared.net.PortRef.{PortRef}
use Rattle.edif_values.specs.declared.net.NetItem.{NetItem}
use Rattle.edif_values.specs.declared.net.NetItem.TheVariants as net_items
use Rattle.edif_values.specs.declared.net.Net.{Net}
use Rattle.edif_values.specs.declared.view.InterfaceItem.{InterfaceItem}
use Rattle.edif_values.specs.declared.view.InterfaceItem.TheVariants as interface_items
use Rattle.edif_values.specs.declared.view.ContentsItem.{ContentsItem}
use Rattle.edif_values.specs.declared.view.ContentsItem.TheVariants as contents_items
use Rattle.edif_values.specs.declared.view.ViewItem.{ViewItem}
use Rattle.edif_values.specs.declared.view.ViewItem.TheVariants as view_items
use Rattle.edif_values.specs.declared.view.View.{View}
use Rattle.edif_values.specs.declared.cell.CellItem.{CellItem}
use Rattle.edif_values.specs.declared.cell.CellItem.TheVariants as cell_items
use Rattle.edif_values.specs.declared.cell.Cell.{Cell}
use Rattle.edif_values.specs.declared.library.Scale.{Scale}
use Rattle.edif_values.specs.declared.library.LibraryItem.{LibraryItem}
use Rattle.edif_values.specs.declared.library.LibraryItem.TheVariants as library_items
use Rattle.edif_values.specs.declared.library.Library.{Library}
use Rattle.edif_values.specs.declared.file.DesignItem.{DesignItem}
use Rattle.edif_values.specs.declared.file.DesignItem.TheVariants as design_items
use Rattle.edif_values.specs.declared.file.Design.{Design}
use Rattle.edif_values.specs.declared.file.FileItem.{FileItem}
use Rattle.edif_values.specs.declared.file.FileItem.TheVariants as file_items
use Rattle.edif_values.specs.declared.file.EdifFile.{EdifFile}
use Rattle.edif_values.specs.Proper.{IsProper}
use Rattle.edif_values.specs.Directions.{directions}

-- ---- words, numbers and strings (EDIF 2 0 0, basic syntax)

-- an identifier of at most 1,024 bytes
abbrev pub IsWord : List ℕ → Type 0
IsWord w = IsProper (Word w)

-- a whole number of an absolute value of at most 2^63-1
abbrev pub IsInteger : ℤ → Type 0
IsInteger n = IsProper (Number n)

-- a string of at most 1,048,576 bytes
abbrev pub IsString : List ℕ → Type 0
IsString s = IsProper (Str s)

-- the strings of a comment (EDIF 2 0 0, comment)
abbrev pub AreStrings : List (List ℕ) → Type 0
AreStrings texts = AllByRecursion IsString texts

-- ---- names and properties (EDIF 2 0 0, rename, array and property)

-- a name: an identifier, and a string where it is a rename
pub record IsNameDef (name : NameDef) : Type 0 where
  pub ident : IsWord name.ident
  pub text : IfSome name.text IsString

-- the name of a port, and a whole number where it is an array
abbrev pub IsPortName : PortName → Type 0
IsPortName (Single name) = IsNameDef name
IsPortName (Array name size) = IsNameDef name × IsInteger size

-- a scaled number: two whole numbers
pub record IsScaled (number : Scaled) : Type 0 where
  pub mantissa : IsInteger number.mantissa
  pub exponent : IsInteger number.exponent

-- the value of a property
abbrev pub IsPropValue : PropValue → Type 0
IsPropValue (values.Str s) = IsString s
IsPropValue (values.Int n) = IsInteger n
IsPropValue (values.Flag b) = ⊤
IsPropValue (values.Scaled x) = IsScaled x

-- an owner or a comment of a property
abbrev pub IsPropTail : PropTail → Type 0
IsPropTail (tail.Owner s) = IsString s
IsPropTail (tail.Comment texts) = AreStrings texts

-- owners and comments of a property
abbrev pub ArePropTails : List PropTail → Type 0
ArePropTails ts = AllByRecursion IsPropTail ts

-- a property: its name, its value, and its owners and comments
pub record IsProperty (property : Property) : Type 0 where
  pub name : IsNameDef property.name
  pub value : IsPropValue property.value
  pub tail : ArePropTails property.tail

-- ---- user data, notes and statuses (EDIF 2 0 0, userData and status)

-- the depth of a tree, from those of its trees: a word, a number and a string have depth 0
abbrev pub depth_step : UserTree-F ℕ → ℕ
depth_step (UserTree-F.Word w) = 0
depth_step (UserTree-F.Number n) = 0
depth_step (UserTree-F.Str s) = 0
depth_step (UserTree-F.List ds) = suc (fold max 0 ds)

-- how many lists stand in one another in a tree
abbrev pub depth : UserTree → ℕ
depth = fold-UserTree ℕ depth_step

-- lists one after the other
abbrev pub together : List (List Token) → List Token
together [] = []
together (ts ∷ rest) = ts ++ together rest

-- the leaves of a tree, from those of its trees
abbrev pub leaves_step : UserTree-F (List Token) → List Token
leaves_step (UserTree-F.Word w) = token.Word w ∷ []
leaves_step (UserTree-F.Number n) = token.Number n ∷ []
leaves_step (UserTree-F.Str s) = token.Str s ∷ []
leaves_step (UserTree-F.List ls) = together ls

-- the words, numbers and strings of a tree, from the left
abbrev pub leaves : UserTree → List Token
leaves = fold-UserTree (List Token) leaves_step

-- A tree has at most so many lists in one another, and its leaves are tokens that a text can have.
pub record IsTree (room : ℕ) (t : UserTree) : Type 0 where
  pub shallow : depth t ≤ room
  pub proper : AllByRecursion IsProper (leaves t)

-- all these trees are such
abbrev pub AreTrees : ℕ → List UserTree → Type 0
AreTrees room ts = AllByRecursion (λ t. IsTree room t) ts

-- The name is a word that a text can have, and lists are at most 64 deep.
pub record IsUserData (u : UserData) : Type 0 where
  pub name : IsProper (token.Word u.name)
  pub trees : AreTrees 64 u.trees

-- a comment's strings are such as a text can have, and user data is
abbrev pub IsNote : Note → Type 0
IsNote (notes.Comment ts) = AllByRecursion (λ t. IsProper (token.Str t)) ts
IsNote (notes.User u) = IsUserData u

-- The six numbers of a time stamp are such as a text can have.
pub record IsStamp (s : Stamp) : Type 0 where
  pub year : IsProper (token.Number s.year)
  pub month : IsProper (token.Number s.month)
  pub day : IsProper (token.Number s.day)
  pub hour : IsProper (token.Number s.hour)
  pub minute : IsProper (token.Number s.minute)
  pub second : IsProper (token.Number s.second)

-- the version, where there is one, is a string that a text can have
abbrev pub IsVersion : Option (List ℕ) → Type 0
IsVersion None = ⊤
IsVersion (Some s) = IsProper (token.Str s)

-- an author's, a program's and an origin's name is a string that a text can have
abbrev pub IsWrittenItem : WrittenItem → Type 0
IsWrittenItem (written_items.Author s) = IsProper (token.Str s)
IsWrittenItem (written_items.Program s v) = IsProper (token.Str s) × IsVersion v
IsWrittenItem (written_items.DataOrigin s v) = IsProper (token.Str s) × IsVersion v
IsWrittenItem (written_items.Note n) = IsNote n

-- A writing has a time stamp and items that a text can have.
pub record IsWritten (w : Written) : Type 0 where
  pub stamp : IsStamp w.stamp
  pub items : AllByRecursion IsWrittenItem w.items

-- a writing or a note that a text can have
abbrev pub IsStatusItem : StatusItem → Type 0
IsStatusItem (status_items.Written w) = IsWritten w
IsStatusItem (status_items.Note n) = IsNote n

-- all parts of a status are such
abbrev pub IsStatus : Status → Type 0
IsStatus s = AllByRecursion IsStatusItem s.items

-- ---- ports, instances and nets (EDIF 2 0 0, port, instance and net)

-- a direction, a property, a designator or a note of a port
abbrev pub IsPortItem : PortItem → Type 0
IsPortItem (port_items.Direction d) = ⊤
IsPortItem (port_items.Property p) = IsProperty p
IsPortItem (port_items.Designator s) = IsString s
IsPortItem (port_items.Note n) = IsNote n

-- the items of a port, at most one of which is a direction
abbrev pub ArePortItems : List PortItem → Type 0
ArePortItems is = AllByRecursion IsPortItem is × (length (directions is) ≤ 1)

-- a port: its name and its items
pub record IsPort (port : Port) : Type 0 where
  pub name : IsPortName port.name
  pub items : ArePortItems port.items

-- a property, a designator or a note of an instance
abbrev pub IsInstanceItem : InstanceItem → Type 0
IsInstanceItem (instance_items.Property p) = IsProperty p
IsInstanceItem (instance_items.Designator s) = IsString s
IsInstanceItem (instance_items.Note n) = IsNote n

-- an instance: its name, the view, cell and library that it refers to, and its items
pub record IsInstance (instance : Instance) : Type 0 where
  pub name : IsNameDef instance.name
  pub view : IsWord instance.view
  pub cell : IsWord instance.cell
  pub library : IfSome instance.library IsWord
  pub items : AllByRecursion IsInstanceItem instance.items

-- a reference to a port or one of its members, of the cell or of an instance
pub record IsPortRef (reference : PortRef) : Type 0 where
  pub port : IsWord reference.port
  pub member : IfSome reference.member IsInteger
  pub instance : IfSome reference.instance IsWord

-- a property or a note of a net
abbrev pub IsNetItem : NetItem → Type 0
IsNetItem (net_items.Property p) = IsProperty p
IsNetItem (net_items.Note n) = IsNote n

-- a net: its name, what it joins, and its items
pub record IsNet (net : Net) : Type 0 where
  pub name : IsNameDef net.name
  pub joined : AllByRecursion IsPortRef net.joined
  pub items : AllByRecursion IsNetItem net.items

-- ---- views, cells, libraries, designs and files (EDIF 2 0 0, view, cell, library, design and edif)

-- a port, a property, a designator or a note of an interface
abbrev pub IsInterfaceItem : InterfaceItem → Type 0
IsInterfaceItem (interface_items.Port p) = IsPort p
IsInterfaceItem (interface_items.Property p) = IsProperty p
IsInterfaceItem (interface_items.Designator s) = IsString s
IsInterfaceItem (interface_items.Note n) = IsNote n

-- an instance, a net or a note of contents
abbrev pub IsContentsItem : ContentsItem → Type 0
IsContentsItem (contents_items.Instance i) = IsInstance i
IsContentsItem (contents_items.Net n) = IsNet n
IsContentsItem (contents_items.Note n) = IsNote n

-- contents, a property, a status or a note of a view
abbrev pub IsViewItem : ViewItem → Type 0
IsViewItem (view_items.Contents is) = AllByRecursion IsContentsItem is
IsViewItem (view_items.Property p) = IsProperty p
IsViewItem (view_items.Status s) = IsStatus s
IsViewItem (view_items.Note n) = IsNote n

-- whether an item is contents
abbrev pub is_contents : ViewItem → Bool
is_contents (view_items.Contents is) = true
is_contents (view_items.Property p) = false
is_contents (view_items.Status s) = false
is_contents (view_items.Note n) = false

-- a view: its name, its interface and its items, at most one of which is contents
pub record IsView (view : View) : Type 0 where
  pub name : IsNameDef view.name
  pub interface : AllByRecursion IsInterfaceItem view.interface
  pub items : AllByRecursion IsViewItem view.items
  pub one_contents : length (filter is_contents view.items) ≤ 1

-- a view, a property, a status or a note of a cell
abbrev pub IsCellItem : CellItem → Type 0
IsCellItem (cell_items.View v) = IsView v
IsCellItem (cell_items.Property p) = IsProperty p
IsCellItem (cell_items.Status s) = IsStatus s
IsCellItem (cell_items.Note n) = IsNote n

-- whether an item is a view
abbrev pub is_view : CellItem → Bool
is_view (cell_items.View v) = true
is_view (cell_items.Property p) = false
is_view (cell_items.Status s) = false
is_view (cell_items.Note n) = false

-- a cell: its name and its items, at most one of which is a view
pub record IsCell (cell : Cell) : Type 0 where
  pub name : IsNameDef cell.name
  pub items : AllByRecursion IsCellItem cell.items
  pub one_view : length (filter is_view cell.items) ≤ 1

-- what a number of a kind of unit is worth
pub record IsScale (scale : Scale) : Type 0 where
  pub left : IsScaled scale.left
  pub right : IsScaled scale.right
  pub unit : IsWord scale.unit

-- a cell, a status or a note of a library
abbrev pub IsLibraryItem : LibraryItem → Type 0
IsLibraryItem (library_items.Cell c) = IsCell c
IsLibraryItem (library_items.Status s) = IsStatus s
IsLibraryItem (library_items.Note n) = IsNote n

-- a library: its name, the scales and notes of its technology, and its items
pub record IsLibrary (library : Library) : Type 0 where
  pub name : IsNameDef library.name
  pub scales : AllByRecursion IsScale library.scales
  pub notes : AllByRecursion IsNote library.notes
  pub items : AllByRecursion IsLibraryItem library.items

-- a property, a status or a note of a design
abbrev pub IsDesignItem : DesignItem → Type 0
IsDesignItem (design_items.Property p) = IsProperty p
IsDesignItem (design_items.Status s) = IsStatus s
IsDesignItem (design_items.Note n) = IsNote n

-- a design: its name, the cell and the library that it refers to, and its items
pub record IsDesign (design : Design) : Type 0 where
  pub name : IsNameDef design.name
  pub cell : IsWord design.cell
  pub library : IsWord design.library
  pub items : AllByRecursion IsDesignItem design.items

-- a library, a design, a status or a note of a file
abbrev pub IsFileItem : FileItem → Type 0
IsFileItem (file_items.Library l) = IsLibrary l
IsFileItem (file_items.Design d) = IsDesign d
IsFileItem (file_items.Status s) = IsStatus s
IsFileItem (file_items.Note n) = IsNote n

-- a file: its name and its items
pub record IsEdifValue (file : EdifFile) : Type 0 where
  pub name : IsNameDef file.name
  pub items : AllByRecursion IsFileItem file.items
