-- The names of the parts of an EDIF file that is a value are made of bytes.
use Rattle.std.proofs.Common.{◌≡◌, ℕ, ◌<◌, Bool, true, false, inl, inr, List, [], ◌∷◌, Option, Some, None, IfSome, pos, negsuc, sym, subst, arith}
use Rattle.std.specs.Prelude.{◌&&◌, ◌||◌, ◌==◌}
use Rattle.std.specs.List.{filter_map, flat_map, list_all}
use Rattle.std.proofs.lemmas.Bool.Decides.{nat_tests}
use Rattle.nl_base.specs.Identifiers.{is_identifier, is_letter, is_word_byte}
use Rattle.nl_base.specs.Ranges.{bracketed}
use Rattle.edif_design.specs.Design.{cell_properties, design_properties, design_property, edif_properties, instance_property, interface_property, port_property, property_value, view_property}
use Rattle.edif_design.specs.Parts.{design_in, designs}
use Rattle.edif_design_laws.proofs.Lists.{all_append, all_flat, all_some}
use Rattle.edif_values.specs.Values.{IsString, IsWord, IsNameDef, IsPortName, IsProperty, IsInstance, IsInstanceItem, IsPort, IsPortItem, IsCell, IsCellItem, IsDesign, IsDesignItem, IsEdifValue, IsFileItem, IsInterfaceItem, IsViewItem}
use Rattle.edif_values.specs.declared.cell.Cell.{Cell}
use Rattle.edif_values.specs.declared.cell.CellItem.{CellItem}
use Rattle.edif_values.specs.declared.cell.CellItem.TheVariants as cell_items
use Rattle.edif_values.specs.declared.file.DesignItem.{DesignItem}
use Rattle.edif_values.specs.declared.file.DesignItem.TheVariants as design_items
use Rattle.edif_values.specs.declared.file.EdifFile.{EdifFile}
use Rattle.edif_values.specs.declared.file.FileItem.{FileItem}
use Rattle.edif_values.specs.declared.file.FileItem.TheVariants as file_items
use Rattle.edif_values.specs.declared.view.InterfaceItem.{InterfaceItem}
use Rattle.edif_values.specs.declared.view.InterfaceItem.TheVariants as interface_items
use Rattle.edif_values.specs.declared.view.ViewItem.{ViewItem}
use Rattle.edif_values.specs.declared.view.ViewItem.TheVariants as view_items
use Rattle.edif_values.proofs.Names.{array_named}
use Rattle.edif_values.specs.Names.{array_name, original, port_original, renamed_as}
use Rattle.edif_values.specs.declared.name.NameDef.{NameDef}
use Rattle.edif_values.specs.declared.name.PortName.{PortName}
use Rattle.edif_values.specs.declared.name.PortName.TheVariants.{Single, Array}
use Rattle.edif_values.specs.declared.property.Property.{Property}
use Rattle.edif_values.specs.declared.instance.Instance.{Instance}
use Rattle.edif_values.specs.declared.instance.InstanceItem.{InstanceItem}
use Rattle.edif_values.specs.declared.instance.InstanceItem.TheVariants as instance_items
use Rattle.edif_values.specs.declared.port.Port.{Port}
use Rattle.edif_values.specs.declared.port.PortItem.{PortItem}
use Rattle.edif_values.specs.declared.port.PortItem.TheVariants as port_items
use Rattle.edif_values.specs.Proper.{AreBytes}
use Rattle.net_flatten_fits.proofs.Lists.{all_front}
use Rattle.net_flatten_fits.specs.Named.{HaveByteNames}
use Rattle.net_hier.specs.declared.cells.HProp.{HProp}

-- ---- names

word_byte : (b : ℕ) → is_word_byte b ≡ true → b < 256
word_byte b e = grind (arith, nat_tests, e)

first_byte : (b : ℕ) → (is_letter b || (b == 38)) ≡ true → b < 256
first_byte b e = grind (arith, nat_tests, e)

both_true : (x y : Bool) → (x && y) ≡ true → (x ≡ true) × (y ≡ true)
both_true true y e = (cc, e)
both_true false y e = absurd cc

word_bytes : (bs : List ℕ) → list_all is_word_byte bs ≡ true → AreBytes bs
word_bytes [] e = tt
word_bytes (b ∷ bs) e = let h = both_true (is_word_byte b) (list_all is_word_byte bs) e in (word_byte b h.0, word_bytes bs h.1)

identifier_bytes : (bs : List ℕ) → is_identifier bs ≡ true → AreBytes bs
identifier_bytes [] e = tt
identifier_bytes (b ∷ []) e = (letter b e, tt)
  where
    letter : (b : ℕ) → is_letter b ≡ true → b < 256
    letter b e = grind (arith, nat_tests, e)
identifier_bytes (b ∷ (c ∷ bs)) e = let h = both_true (is_letter b || (b == 38)) (list_all is_word_byte (c ∷ bs)) e in (first_byte b h.0, word_bytes (c ∷ bs) h.1)

renamed_bytes : (text : Option (List ℕ)) (ident : List ℕ) → IfSome text IsString → IsWord ident → AreBytes (renamed_as text ident)
renamed_bytes None ident h k = identifier_bytes ident k.0
renamed_bytes (Some text) ident h k = h.0

pub original_bytes : (name : NameDef) → IsNameDef name → AreBytes (original name)
original_bytes name h = renamed_bytes name.text name.ident h.text h.ident

-- the base of an array's text is its front
array_bytes : (text : List ℕ) (size : ℕ) → AreBytes text → AreBytes (array_name text (pos size)).0
array_bytes text size h = elim (array_named text size) as (λ _. AreBytes (array_name text (pos size)).0) [
  | inl form ↦ all_front (λ b. b < 256) (array_name text (pos size)).0 (bracketed form.bracket (array_name text (pos size)).1) (subst AreBytes form.is_text h)
  | inr whole ↦ subst AreBytes (sym whole.1) h
]

pub port_bytes : (name : PortName) → IsPortName name → AreBytes (port_original name).0
port_bytes (Single name) h = original_bytes name h
port_bytes (Array name (pos size)) h = array_bytes (original name) size (original_bytes name h.0)
port_bytes (Array name (negsuc n)) h = original_bytes name h.0

-- ---- properties

abbrev IsPropByBytes : HProp → Type 0
IsPropByBytes prop = AreBytes prop.name

property_bytes : (property : Property) → IsProperty property → IsPropByBytes (property_value property)
property_bytes property h = original_bytes property.name h.name

port_item : (item : PortItem) → IsPortItem item → IfSome (port_property item) IsPropByBytes
port_item (port_items.Direction dir) h = tt
port_item (port_items.Property property) h = property_bytes property h
port_item (port_items.Designator text) h = tt
port_item (port_items.Note note) h = tt

instance_item : (item : InstanceItem) → IsInstanceItem item → IfSome (instance_property item) IsPropByBytes
instance_item (instance_items.Property property) h = property_bytes property h
instance_item (instance_items.Designator text) h = tt
instance_item (instance_items.Note note) h = tt

design_item : (item : DesignItem) → IsDesignItem item → IfSome (design_property item) IsPropByBytes
design_item (design_items.Property property) h = property_bytes property h
design_item (design_items.Status status) h = tt
design_item (design_items.Note note) h = tt

interface_item : (item : InterfaceItem) → IsInterfaceItem item → IfSome (interface_property item) IsPropByBytes
interface_item (interface_items.Port port) h = tt
interface_item (interface_items.Property property) h = property_bytes property h
interface_item (interface_items.Designator text) h = tt
interface_item (interface_items.Note note) h = tt

view_item : (item : ViewItem) → IsViewItem item → IfSome (view_property item) IsPropByBytes
view_item (view_items.Contents items) h = tt
view_item (view_items.Property property) h = property_bytes property h
view_item (view_items.Status status) h = tt
view_item (view_items.Note note) h = tt

cell_item : (item : CellItem) → IsCellItem item → HaveByteNames (cell_properties item)
cell_item (cell_items.View view) h =
    all_append IsPropByBytes (filter_map interface_property view.interface) (filter_map view_property view.items) (all_some IsInterfaceItem IsPropByBytes interface_property interface_item view.interface h.interface)
    (all_some IsViewItem IsPropByBytes view_property view_item view.items h.items)
cell_item (cell_items.Property property) h = (property_bytes property h, tt)
cell_item (cell_items.Status status) h = tt
cell_item (cell_items.Note note) h = tt

pub port_props : (port : Port) → IsPort port → HaveByteNames (filter_map port_property port.items)
port_props port h = all_some IsPortItem IsPropByBytes port_property port_item port.items h.items.0

pub instance_props : (instance : Instance) → IsInstance instance → HaveByteNames (filter_map instance_property instance.items)
instance_props instance h = all_some IsInstanceItem IsPropByBytes instance_property instance_item instance.items h.items

pub cell_props : (cell : Cell) → IsCell cell → HaveByteNames (flat_map cell_properties cell.items)
cell_props cell h = all_flat IsCellItem IsPropByBytes cell_properties cell_item cell.items h.items

-- ---- the properties of the design

design_of : (item : FileItem) → IsFileItem item → IfSome (design_in item) IsDesign
design_of (file_items.Library library) h = tt
design_of (file_items.Design design) h = h
design_of (file_items.Status status) h = tt
design_of (file_items.Note note) h = tt

pub design_props : (file : EdifFile) → IsEdifValue file → HaveByteNames (edif_properties file)
design_props file h =
    all_flat IsDesign IsPropByBytes design_properties (λ design good. all_some IsDesignItem IsPropByBytes design_property design_item design.items good.items) (designs file)
    (all_some IsFileItem IsDesign design_in design_of file.items h.items)
