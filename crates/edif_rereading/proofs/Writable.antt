-- What is written of a file that can be written is of proper words, integers and strings.
use Rattle.std.proofs.Common.{◌≡◌, ℕ, zero, suc, true, false, List, [], ◌∷◌, Option, Some, None, refl, subst, arith}
use Rattle.std.specs.Prelude.{ℤ, pos, negsuc, IfSome}
use Rattle.std.specs.List.{AllByRecursion}
use Rattle.nl_base.specs.declared.value.Dir.{Dir}
use Rattle.nl_base.specs.declared.value.Dir.TheVariants as dirs
use Rattle.nl_base.specs.declared.value.PropValue.{PropValue}
use Rattle.nl_base.specs.declared.value.PropValue.TheVariants as prop
use Rattle.edif_values.specs.declared.token.Token.{Token}
use Rattle.edif_values.specs.declared.token.Token.TheVariants as t
use Rattle.edif_values.specs.Proper.{IsProper}
use Rattle.edif_values.specs.Values.{IsWord, IsInteger, IsString, IsNameDef, IsPortName, IsPropValue, IsPropTail, IsProperty, IsTree, AreTrees, IsNote, IsStamp, IsWrittenItem, IsStatusItem, IsStatus, IsPortItem, IsPort, IsInstanceItem, IsInstance, IsPortRef, IsNetItem, IsNet, IsInterfaceItem, IsContentsItem, IsViewItem, IsView, IsCellItem, IsCell, IsScale, IsLibraryItem, IsLibrary, IsDesignItem, IsDesign, IsFileItem, IsEdifValue}
use Rattle.edif_values.specs.declared.name.NameDef.{NameDef}
use Rattle.edif_values.specs.declared.name.PortName.{PortName}
use Rattle.edif_values.specs.declared.name.PortName.TheVariants as port_names
use Rattle.edif_values.specs.declared.property.PropTail.{PropTail}
use Rattle.edif_values.specs.declared.property.PropTail.TheVariants as prop_tails
use Rattle.edif_values.specs.declared.property.Property.{Property}
use Rattle.edif_values.specs.declared.user.UserTree.{UserTree}
use Rattle.edif_values.specs.declared.user.UserTree.TheVariants as tree
use Rattle.edif_values.specs.declared.note.Note.{Note}
use Rattle.edif_values.specs.declared.note.Note.TheVariants as noted
use Rattle.edif_values.specs.declared.written.Stamp.{Stamp}
use Rattle.edif_values.specs.declared.written.WrittenItem.{WrittenItem}
use Rattle.edif_values.specs.declared.written.WrittenItem.TheVariants as written_items
use Rattle.edif_values.specs.declared.status.StatusItem.{StatusItem}
use Rattle.edif_values.specs.declared.status.StatusItem.TheVariants as status_items
use Rattle.edif_values.specs.declared.status.Status.{Status}
use Rattle.edif_status.proofs.Kept.{word_leaves, number_leaves, string_leaves}
use Rattle.edif_values.specs.declared.port.PortItem.{PortItem}
use Rattle.edif_values.specs.declared.port.PortItem.TheVariants as port_items
use Rattle.edif_values.specs.declared.port.Port.{Port}
use Rattle.edif_values.specs.declared.instance.InstanceItem.{InstanceItem}
use Rattle.edif_values.specs.declared.instance.InstanceItem.TheVariants as instance_items
use Rattle.edif_values.specs.declared.instance.Instance.{Instance}
use Rattle.edif_values.specs.declared.net.PortRef.{PortRef}
use Rattle.edif_values.specs.declared.net.NetItem.{NetItem}
use Rattle.edif_values.specs.declared.net.NetItem.TheVariants as net_items
use Rattle.edif_values.specs.declared.net.Net.{Net}
use Rattle.edif_values.specs.declared.view.InterfaceItem.{InterfaceItem}
use Rattle.edif_values.specs.declared.view.InterfaceItem.TheVariants as interface_items
use Rattle.edif_values.specs.declared.view.ContentsItem.{ContentsItem}
use Rattle.edif_values.specs.declared.view.ContentsItem.TheVariants as contents_items
use Rattle.edif_values.specs.declared.view.ViewItem.{ViewItem}
use Rattle.edif_values.specs.declared.view.ViewItem.TheVariants as view_items
use Rattle.edif_values.specs.declared.view.View.{View}
use Rattle.edif_values.specs.declared.cell.CellKind.{CellKind}
use Rattle.edif_values.specs.declared.cell.CellKind.TheVariants as kinds
use Rattle.edif_values.specs.declared.cell.CellItem.{CellItem}
use Rattle.edif_values.specs.declared.cell.CellItem.TheVariants as cell_items
use Rattle.edif_values.specs.declared.cell.Cell.{Cell}
use Rattle.edif_values.specs.declared.library.Scale.{Scale}
use Rattle.edif_values.specs.declared.library.LibraryItem.{LibraryItem}
use Rattle.edif_values.specs.declared.library.LibraryItem.TheVariants as library_items
use Rattle.edif_values.specs.declared.library.Library.{Library}
use Rattle.edif_values.specs.declared.file.DesignItem.{DesignItem}
use Rattle.edif_values.specs.declared.file.DesignItem.TheVariants as design_items
use Rattle.edif_values.specs.declared.file.Design.{Design}
use Rattle.edif_values.specs.declared.file.FileItem.{FileItem}
use Rattle.edif_values.specs.declared.file.FileItem.TheVariants as file_items
use Rattle.edif_values.specs.declared.file.EdifFile.{EdifFile}
use Rattle.edif_writer.specs.Forms as form
use Rattle.edif_writer.specs.Layout.{Form, Str, Block, each, all}
use Rattle.edif_writer.proofs.Trees.{word_form, number_form, str_form, list_form}
use Rattle.edif_lexing.specs.Tokens.{IsWritable, AreWritable, CanBeLaid, AllCanBeLaid}
use Rattle.edif_rereading.proofs.Status.{tree_cases, inner_trees, no_list}

each_writable : {I : Type 0} (form : I → Form) (Good : I → Type 0) → ((i : I) → Good i → IsWritable (form i)) → (is : List I) → AllByRecursion Good is → AreWritable (each form is)
each_writable form Good one_form [] g = tt
each_writable form Good one_form (i ∷ is) g = (one_form i g.0, each_writable form Good one_form is g.1)

all_laid : {I : Type 0} (block : I → Block) (Good : I → Type 0) → ((i : I) → Good i → CanBeLaid (block i)) → (is : List I) → AllByRecursion Good is → AllCanBeLaid (all block is)
all_laid block Good one_block [] g = tt
all_laid block Good one_block (i ∷ is) g = (one_block i g.0, all_laid block Good one_block is g.1)

-- ---- names and properties

renamed_writable : (w : List ℕ) (o : Option (List ℕ)) → IsWord w → IfSome o IsString → IsWritable (form.renamed w o)
renamed_writable w None g h = g
renamed_writable w (Some s) g h = (g, (h, tt))

name_writable : (n : NameDef) → IsNameDef n → IsWritable (form.name_form n)
name_writable n g = renamed_writable n.ident n.text g.ident g.text

port_name_writable : (n : PortName) → IsPortName n → IsWritable (form.port_name_form n)
port_name_writable (port_names.Single n) g = name_writable n g
port_name_writable (port_names.Array n size) g = (name_writable n g.0, (g.1, tt))

scaled_writable : (m e : ℤ) → IsInteger m → IsInteger e → IsWritable (form.scaled_by m e)
scaled_writable m (pos zero) g h = g
scaled_writable m (pos (suc n)) g h = (g, (h, tt))
scaled_writable m (negsuc n) g h = (g, (h, tt))

value_writable : (v : PropValue) → IsPropValue v → IsWritable (form.value_form v)
value_writable (prop.Str s) g = (g, tt)
value_writable (prop.Int n) g = (g, tt)
value_writable (prop.Flag true) g = (tt, tt)
value_writable (prop.Flag false) g = (tt, tt)
value_writable (prop.Scaled s) g = (scaled_writable s.mantissa s.exponent g.mantissa g.exponent, tt)

strings_writable : (ts : List (List ℕ)) → AllByRecursion IsString ts → AreWritable (each Str ts)
strings_writable ts g = each_writable Str IsString (λ s h. h) ts g

tail_writable : (i : PropTail) → IsPropTail i → IsWritable (form.tail_form i)
tail_writable (prop_tails.Owner s) g = (g, tt)
tail_writable (prop_tails.Comment ts) g = strings_writable ts g

property_writable : (p : Property) → IsProperty p → IsWritable (form.property_form p)
property_writable p g = (name_writable p.name g.name, (value_writable p.value g.value, each_writable form.tail_form IsPropTail tail_writable p.tail g.tail))

-- ---- user data, notes and status

module _ (room : ℕ) (within : (n : ℕ) (us : List UserTree) → room ≡ suc n → AreTrees n us → AreWritable (each form.tree_form us)) where
  tree_writable : (x : UserTree) → IsTree room x → IsWritable (form.tree_form x)
  tree_writable = tree_cases (λ x. IsTree room x → IsWritable (form.tree_form x))
      (λ w g. rw (word_form w) (subst (λ (z : List Token). AllByRecursion IsProper z) (word_leaves w) g.proper).0)
      (λ n g. rw (number_form n) (subst (λ (z : List Token). AllByRecursion IsProper z) (number_leaves n) g.proper).0)
      (λ s g. rw (str_form s) (subst (λ (z : List Token). AllByRecursion IsProper z) (string_leaves s) g.proper).0)
      (λ us g. rw (list_form us) (by_room room refl us g))
    where
      by_room : (n : ℕ) → room ≡ n → (us : List UserTree) → IsTree room (tree.List us) → AreWritable (each form.tree_form us)
      by_room zero e us g = absurd (no_list us (subst (λ (m : ℕ). IsTree m (tree.List us)) e g))
      by_room (suc n) e us g = within n us e (inner_trees n us (subst (λ (m : ℕ). IsTree m (tree.List us)) e g))

trees_writable : (room : ℕ) (ts : List UserTree) → AreTrees room ts → AreWritable (each form.tree_form ts)
trees_writable zero ts g = each_writable form.tree_form (λ x. IsTree zero x) (tree_writable zero (λ n us e s. absurd cc)) ts g
trees_writable (suc room) ts g =
    each_writable form.tree_form (λ x. IsTree (suc room) x)
    (tree_writable (suc room) (λ n us e s. trees_writable room us (let f : n ≡ room = omega (arith, e) in subst (λ (m : ℕ). AreTrees m us) f s))) ts g

note_writable : (n : Note) → IsNote n → IsWritable (form.note_form n)
note_writable (noted.Comment ts) g = strings_writable ts g
note_writable (noted.User u) g = (g.name, trees_writable 64 u.trees g.trees)

stamp_writable : (s : Stamp) → IsStamp s → IsWritable (form.stamp_form s)
stamp_writable s g = (g.year, (g.month, (g.day, (g.hour, (g.minute, (g.second, tt))))))

written_item_writable : (i : WrittenItem) → IsWrittenItem i → IsWritable (form.written_item_form i)
written_item_writable (written_items.Author s) g = (g, tt)
written_item_writable (written_items.Program s None) g = (g.0, tt)
written_item_writable (written_items.Program s (Some v)) g = (g.0, ((g.1, tt), tt))
written_item_writable (written_items.DataOrigin s None) g = (g.0, tt)
written_item_writable (written_items.DataOrigin s (Some v)) g = (g.0, ((g.1, tt), tt))
written_item_writable (written_items.Note n) g = note_writable n g

status_item_writable : (i : StatusItem) → IsStatusItem i → IsWritable (form.status_item_form i)
status_item_writable (status_items.Written w) g = (stamp_writable w.stamp g.stamp, each_writable form.written_item_form IsWrittenItem written_item_writable w.items g.items)
status_item_writable (status_items.Note n) g = note_writable n g

status_writable : (s : Status) → IsStatus s → IsWritable (form.status_form s)
status_writable s g = each_writable form.status_item_form IsStatusItem status_item_writable s.items g

status_item_laid : (i : StatusItem) → IsStatusItem i → CanBeLaid (form.status_item_block i)
status_item_laid (status_items.Written w) g = (tt, (stamp_writable w.stamp g.stamp, all_laid form.written_item_block IsWrittenItem written_item_writable w.items g.items))
status_item_laid (status_items.Note n) g = note_writable n g

status_laid : (s : Status) → IsStatus s → CanBeLaid (form.status_block s)
status_laid s g = (tt, all_laid form.status_item_block IsStatusItem status_item_laid s.items g)

-- ---- ports, instances and nets

dir_writable : (d : Dir) → IsWritable (form.dir_form d)
dir_writable dirs.Input = (refl, omega arith)
dir_writable dirs.Output = (refl, omega arith)
dir_writable dirs.Inout = (refl, omega arith)

port_item_writable : (i : PortItem) → IsPortItem i → IsWritable (form.port_item_form i)
port_item_writable (port_items.Direction d) g = (dir_writable d, tt)
port_item_writable (port_items.Property p) g = property_writable p g
port_item_writable (port_items.Designator s) g = (g, tt)
port_item_writable (port_items.Note n) g = note_writable n g

port_writable : (p : Port) → IsPort p → IsWritable (form.port_form p)
port_writable p g = (port_name_writable p.name g.name, each_writable form.port_item_form IsPortItem port_item_writable p.items g.items.0)

cell_ref_writable : (w : List ℕ) (o : Option (List ℕ)) → IsWord w → IfSome o IsWord → IsWritable (form.cell_ref_form w o)
cell_ref_writable w None g h = (g, tt)
cell_ref_writable w (Some l) g h = (g, ((h, tt), tt))

instance_item_writable : (i : InstanceItem) → IsInstanceItem i → IsWritable (form.instance_item_form i)
instance_item_writable (instance_items.Property p) g = property_writable p g
instance_item_writable (instance_items.Designator s) g = (g, tt)
instance_item_writable (instance_items.Note n) g = note_writable n g

instance_laid : (i : Instance) → IsInstance i → CanBeLaid (form.instance_block i)
instance_laid i g =
    ((name_writable i.name g.name, tt), ((g.view, (cell_ref_writable i.cell i.library g.cell g.library, tt)), all_laid form.instance_item_block IsInstanceItem instance_item_writable i.items g.items))

member_writable : (w : List ℕ) (o : Option ℤ) → IsWord w → IfSome o IsInteger → IsWritable (form.member_form w o)
member_writable w None g h = g
member_writable w (Some n) g h = (g, (h, tt))

instance_ref_writable : (o : Option (List ℕ)) → IfSome o IsWord → AreWritable (form.instance_ref_forms o)
instance_ref_writable None g = tt
instance_ref_writable (Some w) g = ((g, tt), tt)

port_ref_writable : (p : PortRef) → IsPortRef p → CanBeLaid (form.port_ref_block p)
port_ref_writable p g = (member_writable p.port p.member g.port g.member, instance_ref_writable p.instance g.instance)

net_item_laid : (i : NetItem) → IsNetItem i → CanBeLaid (form.net_item_block i)
net_item_laid (net_items.Property p) g = property_writable p g
net_item_laid (net_items.Note n) g = note_writable n g

net_laid : (n : Net) → IsNet n → CanBeLaid (form.net_block n)
net_laid n g =
    ((name_writable n.name g.name, tt), ((tt, all_laid form.port_ref_block IsPortRef port_ref_writable n.joined g.joined), all_laid form.net_item_block IsNetItem net_item_laid n.items g.items))

-- ---- views and cells

interface_item_laid : (i : InterfaceItem) → IsInterfaceItem i → CanBeLaid (form.interface_item_block i)
interface_item_laid (interface_items.Port p) g = port_writable p g
interface_item_laid (interface_items.Property p) g = property_writable p g
interface_item_laid (interface_items.Designator s) g = (g, tt)
interface_item_laid (interface_items.Note n) g = note_writable n g

contents_item_laid : (i : ContentsItem) → IsContentsItem i → CanBeLaid (form.contents_item_block i)
contents_item_laid (contents_items.Instance i) g = instance_laid i g
contents_item_laid (contents_items.Net n) g = net_laid n g
contents_item_laid (contents_items.Note n) g = note_writable n g

view_item_laid : (i : ViewItem) → IsViewItem i → CanBeLaid (form.view_item_block i)
view_item_laid (view_items.Contents is) g = (tt, all_laid form.contents_item_block IsContentsItem contents_item_laid is g)
view_item_laid (view_items.Property p) g = property_writable p g
view_item_laid (view_items.Status s) g = status_laid s g
view_item_laid (view_items.Note n) g = note_writable n g

view_laid : (v : View) → IsView v → CanBeLaid (form.view_block v)
view_laid v g = (
  (name_writable v.name g.name, tt),
  (
    ((refl, omega arith), tt),
    (
      (tt, all_laid form.interface_item_block IsInterfaceItem interface_item_laid v.interface g.interface),
      all_laid form.view_item_block IsViewItem view_item_laid v.items g.items,
    ),
  ),
)

cell_item_laid : (i : CellItem) → IsCellItem i → CanBeLaid (form.cell_item_block i)
cell_item_laid (cell_items.View v) g = view_laid v g
cell_item_laid (cell_items.Property p) g = property_writable p g
cell_item_laid (cell_items.Status s) g = status_laid s g
cell_item_laid (cell_items.Note n) g = note_writable n g

kind_writable : (kind : CellKind) → IsWritable (form.kind_form kind)
kind_writable kinds.Generic = (refl, omega arith)
kind_writable kinds.Tie = (refl, omega arith)
kind_writable kinds.Ripper = (refl, omega arith)

cell_laid : (c : Cell) → IsCell c → CanBeLaid (form.cell_block c)
cell_laid c g = ((name_writable c.name g.name, tt), ((kind_writable c.kind, tt), all_laid form.cell_item_block IsCellItem cell_item_laid c.items g.items))

-- ---- libraries, designs and the file

zero_writable : IsProper (t.Number (pos 0))
zero_writable = omega arith

scale_writable : (s : Scale) → IsScale s → IsWritable (form.scale_form s)
scale_writable s g =
    (scaled_writable s.left.mantissa s.left.exponent g.left.mantissa g.left.exponent, (scaled_writable s.right.mantissa s.right.exponent g.right.mantissa g.right.exponent, ((g.unit, tt), tt)))

library_item_laid : (i : LibraryItem) → IsLibraryItem i → CanBeLaid (form.library_item_block i)
library_item_laid (library_items.Cell c) g = cell_laid c g
library_item_laid (library_items.Status s) g = status_laid s g
library_item_laid (library_items.Note n) g = note_writable n g

library_laid : (l : Library) → IsLibrary l → CanBeLaid (form.library_block l)
library_laid l g = (
  (name_writable l.name g.name, tt),
  (
    (zero_writable, tt),
    (
      (each_writable form.scale_form IsScale scale_writable l.scales g.scales, each_writable form.note_form IsNote note_writable l.notes g.notes),
      all_laid form.library_item_block IsLibraryItem library_item_laid l.items g.items,
    ),
  ),
)

design_item_writable : (i : DesignItem) → IsDesignItem i → IsWritable (form.design_item_form i)
design_item_writable (design_items.Property p) g = property_writable p g
design_item_writable (design_items.Status s) g = status_writable s g
design_item_writable (design_items.Note n) g = note_writable n g

design_writable : (d : Design) → IsDesign d → IsWritable (form.design_form d)
design_writable d g =
    (name_writable d.name g.name, (cell_ref_writable d.cell (Some d.library) g.cell g.library, each_writable form.design_item_form IsDesignItem design_item_writable d.items g.items))

file_item_laid : (i : FileItem) → IsFileItem i → CanBeLaid (form.file_item_block i)
file_item_laid (file_items.Library l) g = library_laid l g
file_item_laid (file_items.Design d) g = design_writable d g
file_item_laid (file_items.Status s) g = status_laid s g
file_item_laid (file_items.Note n) g = note_writable n g

two_writable : IsProper (t.Number (pos 2))
two_writable = omega arith

-- All words, integers and strings of a written file are proper.
pub file_laid : (f : EdifFile) → IsEdifValue f → CanBeLaid (form.file_block f)
file_laid f g =
    ((name_writable f.name g.name, tt), ((two_writable, (zero_writable, (zero_writable, tt))), ((zero_writable, tt), (((zero_writable, tt), tt), all_laid form.file_item_block IsFileItem file_item_laid f.items g.items))))
