-- What is written of views, cells, libraries, designs and the file spells them.
use Rattle.std.proofs.Common.{◌≡◌, ℕ, ◌≤◌, Bool, true, false, ◌||◌, cond, List, [], ◌∷◌, ◌++◌, length, Some, refl, sym, subst, append_assoc, arith}
use Rattle.std.specs.Prelude.{codes, pos}
use Rattle.std.specs.List.{AllByRecursion, filter, list_any}
use Rattle.edif_values.specs.declared.token.Token.{Token}
use Rattle.edif_values.specs.declared.token.Token.TheVariants as t
use Rattle.edif_values.specs.declared.keyword.Keyword.TheVariants as k
use Rattle.edif_values.specs.Keywords.{has, spelling}
use Rattle.edif_keywords.specs.Aliases.{Alias}
use Rattle.edif_keywords.specs.Reasons as say
use Rattle.edif_keywords.specs.Reasons.{meant_by}
use Rattle.edif_keywords.specs.Grammar.{forms, version, level, keyword_level, map_items, keyword_map, header}
use Rattle.edif_values.specs.declared.name.NameDef.{NameDef}
use Rattle.edif_values.specs.declared.note.Note.{Note}
use Rattle.edif_values.specs.declared.note.Note.TheVariants as noted
use Rattle.edif_values.specs.Values.{IsNote, is_contents, is_view, IsInterfaceItem, IsContentsItem, IsViewItem, IsView, IsCellItem, IsCell, IsScale, IsLibraryItem, IsLibrary, IsDesignItem, IsDesign, IsFileItem, IsEdifValue}
use Rattle.edif_status.specs.Grammar.{note, note_keywords}
use Rattle.edif_values.specs.declared.view.InterfaceItem.{InterfaceItem}
use Rattle.edif_values.specs.declared.view.InterfaceItem.TheVariants as interface_items
use Rattle.edif_values.specs.declared.view.ContentsItem.{ContentsItem}
use Rattle.edif_values.specs.declared.view.ContentsItem.TheVariants as contents_items
use Rattle.edif_values.specs.declared.view.ViewItem.{ViewItem}
use Rattle.edif_values.specs.declared.view.ViewItem.TheVariants as view_items
use Rattle.edif_values.specs.declared.view.View.{View}
use Rattle.edif_values.specs.declared.cell.CellKind.{CellKind}
use Rattle.edif_values.specs.declared.cell.CellKind.TheVariants as kinds
use Rattle.edif_values.specs.declared.cell.CellItem.{CellItem}
use Rattle.edif_values.specs.declared.cell.CellItem.TheVariants as cell_items
use Rattle.edif_values.specs.declared.cell.Cell.{Cell}
use Rattle.edif_values.specs.declared.library.Scale.{Scale}
use Rattle.edif_values.specs.declared.library.LibraryItem.{LibraryItem}
use Rattle.edif_values.specs.declared.library.LibraryItem.TheVariants as library_items
use Rattle.edif_values.specs.declared.library.Library.{Library}
use Rattle.edif_values.specs.declared.file.DesignItem.{DesignItem}
use Rattle.edif_values.specs.declared.file.DesignItem.TheVariants as design_items
use Rattle.edif_values.specs.declared.file.Design.{Design}
use Rattle.edif_values.specs.declared.file.FileItem.{FileItem}
use Rattle.edif_values.specs.declared.file.FileItem.TheVariants as file_items
use Rattle.edif_values.specs.declared.file.EdifFile.{EdifFile}
use Rattle.edif_library.specs.Grammar.{interface_item, interface_keywords, interface_rest, interface, contents_item, contents_keywords, contents_rest, view_item, has_contents, view_keywords, view_rest, netlist, view, kind_words, cell_type, cell_item, has_view, cell_keywords, cell_rest, cell, unit, scale, scales_rest, notes_rest, number_definition, technology, library_item, library_keywords, library_rest, library, library_ref, cell_ref, design_item, design_keywords, design_rest, design, file_item, file_keywords, file_rest, file_body, file}
use Rattle.edif_writer.specs.Forms as form
use Rattle.edif_writer.specs.Layout.{Word, Line, each, all}
use Rattle.edif_lexing.specs.Tokens.{tokens, part_tokens, block_tokens, line_tokens}
use Rattle.edif_rereading.proofs.Spelled.{Spelled, then, after, at_last, in_context, a_word, a_close, a_choice, a_view_type, a_level, version_two, version_zero, keyword_level_zero, closes, begins, last_round, IsItem, item, all_items, line_items, block_items}
use Rattle.edif_rereading.proofs.Names.{name_spelled, scaled_spelled, property_spelled}
use Rattle.edif_rereading.proofs.Status.{comment_spelled, user_spelled, status_spelled, status_on_lines}
use Rattle.edif_rereading.proofs.Nets.{designator_spelled, port_spelled, instance_spelled, net_spelled}

-- ---- at most one

-- where a test is passed at most once, nothing before what passes it does
module _ {I : Type 0} (test : I → Bool) where
  none_kept : (s : List I) (x : I) (rest : List I) → test x ≡ true → 1 ≤ length (filter test (s ++ x ∷ rest))
  none_kept [] x rest e = subst (λ (b : Bool). 1 ≤ length (cond b (x ∷ filter test rest) (filter test rest))) (sym e) (omega arith)
  none_kept (y ∷ s) x rest e = by (test y) (none_kept s x rest e)
    where
      by : (b : Bool) → 1 ≤ length (filter test (s ++ x ∷ rest)) → 1 ≤ length (cond b (y ∷ filter test (s ++ x ∷ rest)) (filter test (s ++ x ∷ rest)))
      by true h = omega arith
      by false h = h

  none_passes : (s : List I) (x : I) (rest : List I) → test x ≡ true → length (filter test (s ++ x ∷ rest)) ≤ 1 → list_any test s ≡ false
  none_passes [] x rest e le = refl
  none_passes (y ∷ s) x rest e le = by (test y) le (λ fewer. none_passes s x rest e fewer)
    where
      by : (b : Bool) → length (cond b (y ∷ filter test (s ++ x ∷ rest)) (filter test (s ++ x ∷ rest))) ≤ 1 → (length (filter test (s ++ x ∷ rest)) ≤ 1 → list_any test s ≡ false)
          → (b || list_any test s) ≡ false
      by true h later = absurd (omega (arith, h, none_kept s x rest e))
      by false h later = later h

  -- the items before and these pass it at most once, and these are good
  abbrev pub AreOnce : (I → Type 0) → List I → List I → Type 0
  AreOnce Good s is = (length (filter test (s ++ is)) ≤ 1) × AllByRecursion Good is

  once_more : (Good : I → Type 0) (s : List I) (i : I) (is : List I) → AreOnce Good s (i ∷ is) → AreOnce Good (s ++ i ∷ []) is
  once_more Good s i is g = (subst (λ (z : List I). length (filter test z) ≤ 1) (sym (append_assoc s (i ∷ []) is)) g.0, g.1.1)

-- ---- views

interface_item_spelled : (i : InterfaceItem) → IsInterfaceItem i → IsItem interface_keywords interface_item (block_tokens (form.interface_item_block i)) i
unfolding has
interface_item_spelled (interface_items.Port p) g = item k.Port refl (at_last (port_spelled p g))
interface_item_spelled (interface_items.Property p) g = item k.Property refl (at_last (property_spelled p g))
interface_item_spelled (interface_items.Designator s) g = item k.Designator refl (at_last (designator_spelled s))
interface_item_spelled (interface_items.Note (noted.Comment ts)) g = item k.Comment refl (at_last (comment_spelled ts))
interface_item_spelled (interface_items.Note (noted.User u)) g = item k.UserData refl (at_last (user_spelled u g))

interface_spelled : (is : List InterfaceItem) → AllByRecursion IsInterfaceItem is → Spelled interface (t.LeftParen ∷ t.Word (spelling k.Interface) ∷ line_tokens (all form.interface_item_block is)) is
unfolding interface interface_rest has
interface_spelled is g = begins _ k.Interface refl (block_items interface_keywords interface_item form.interface_item_block IsInterfaceItem interface_item_spelled is g)

contents_item_spelled : (i : ContentsItem) → IsContentsItem i → IsItem contents_keywords contents_item (block_tokens (form.contents_item_block i)) i
unfolding has
contents_item_spelled (contents_items.Instance i) g = item k.Instance refl (at_last (instance_spelled i g))
contents_item_spelled (contents_items.Net n) g = item k.Net refl (at_last (net_spelled n g))
contents_item_spelled (contents_items.Note (noted.Comment ts)) g = item k.Comment refl (at_last (comment_spelled ts))
contents_item_spelled (contents_items.Note (noted.User u)) g = item k.UserData refl (at_last (user_spelled u g))

contents_may : (b : Bool) → b ≡ false → has (view_keywords b) k.Contents ≡ true
unfolding has view_keywords
contents_may true e = absurd cc
contents_may false e = refl

view_property_may : (b : Bool) → has (view_keywords b) k.Property ≡ true
unfolding has view_keywords
view_property_may true = refl
view_property_may false = refl

view_status_may : (b : Bool) → has (view_keywords b) k.Status ≡ true
unfolding has view_keywords
view_status_may true = refl
view_status_may false = refl

view_comment_may : (b : Bool) → has (view_keywords b) k.Comment ≡ true
unfolding has view_keywords
view_comment_may true = refl
view_comment_may false = refl

view_user_may : (b : Bool) → has (view_keywords b) k.UserData ≡ true
unfolding has view_keywords
view_user_may true = refl
view_user_may false = refl

no_contents : (s : List ViewItem) (cs : List ContentsItem) (is : List ViewItem) → length (filter is_contents (s ++ view_items.Contents cs ∷ is)) ≤ 1 → has_contents s ≡ false
unfolding has_contents
no_contents s cs is le = none_passes is_contents s (view_items.Contents cs) is refl le

view_item_spelled : (s : List ViewItem) (i : ViewItem) (is : List ViewItem) → length (filter is_contents (s ++ i ∷ is)) ≤ 1 → IsViewItem i
    → IsItem (view_keywords (has_contents s)) view_item (block_tokens (form.view_item_block i)) i
unfolding contents_rest
view_item_spelled s (view_items.Contents cs) is le g =
    item k.Contents (contents_may (has_contents s) (no_contents s cs is le)) (at_last (block_items contents_keywords contents_item form.contents_item_block IsContentsItem contents_item_spelled cs g))
view_item_spelled s (view_items.Property p) is le g = item k.Property (view_property_may (has_contents s)) (at_last (property_spelled p g))
view_item_spelled s (view_items.Status u) is le g = item k.Status (view_status_may (has_contents s)) (at_last (status_on_lines u g))
view_item_spelled s (view_items.Note (noted.Comment ts)) is le g = item k.Comment (view_comment_may (has_contents s)) (at_last (comment_spelled ts))
view_item_spelled s (view_items.Note (noted.User u)) is le g = item k.UserData (view_user_may (has_contents s)) (at_last (user_spelled u g))

view_rest_spelled : (is : List ViewItem) → AreOnce is_contents IsViewItem [] is → Spelled (view_rest []) (line_tokens (all form.view_item_block is)) is
unfolding view_rest
view_rest_spelled is g =
    all_items (λ so_far. view_keywords (has_contents so_far)) view_item (λ i. block_tokens (form.view_item_block i)) (λ is. line_tokens (all form.view_item_block is))
    (AreOnce is_contents IsViewItem) refl (λ i is. refl) (λ s i is g. (view_item_spelled s i is g.0 g.1.0, once_more is_contents IsViewItem s i is g)) [] is g

netlist_spelled : Spelled netlist (t.LeftParen ∷ t.Word (spelling k.ViewType) ∷ t.Word (codes "NETLIST") ∷ t.RightParen ∷ []) tt
unfolding netlist has
netlist_spelled = begins _ k.ViewType refl (after a_view_type a_close)

abbrev view_tokens : View → List Token
view_tokens v =
    tokens (form.name_form v.name) ++ ((t.LeftParen ∷ t.Word (spelling k.ViewType) ∷ t.Word (codes "NETLIST") ∷ t.RightParen ∷ [])
    ++ ((t.LeftParen ∷ t.Word (spelling k.Interface) ∷ line_tokens (all form.interface_item_block v.interface)) ++ line_tokens (all form.view_item_block v.items)))

view_spelled : (v : View) → IsView v → Spelled view (view_tokens v) v
unfolding view
view_spelled v g = then (name_spelled v.name) (then netlist_spelled (then (interface_spelled v.interface g.interface) (at_last (view_rest_spelled v.items (g.one_contents, g.items)))))

-- ---- cells

view_may : (b : Bool) → b ≡ false → has (cell_keywords b) k.View ≡ true
unfolding has cell_keywords
view_may true e = absurd cc
view_may false e = refl

cell_property_may : (b : Bool) → has (cell_keywords b) k.Property ≡ true
unfolding has cell_keywords
cell_property_may true = refl
cell_property_may false = refl

cell_status_may : (b : Bool) → has (cell_keywords b) k.Status ≡ true
unfolding has cell_keywords
cell_status_may true = refl
cell_status_may false = refl

cell_comment_may : (b : Bool) → has (cell_keywords b) k.Comment ≡ true
unfolding has cell_keywords
cell_comment_may true = refl
cell_comment_may false = refl

cell_user_may : (b : Bool) → has (cell_keywords b) k.UserData ≡ true
unfolding has cell_keywords
cell_user_may true = refl
cell_user_may false = refl

no_view : (s : List CellItem) (v : View) (is : List CellItem) → length (filter is_view (s ++ cell_items.View v ∷ is)) ≤ 1 → has_view s ≡ false
unfolding has_view
no_view s v is le = none_passes is_view s (cell_items.View v) is refl le

cell_item_spelled : (s : List CellItem) (i : CellItem) (is : List CellItem) → length (filter is_view (s ++ i ∷ is)) ≤ 1 → IsCellItem i
    → IsItem (cell_keywords (has_view s)) cell_item (block_tokens (form.cell_item_block i)) i
cell_item_spelled s (cell_items.View v) is le g = item k.View (view_may (has_view s) (no_view s v is le)) (at_last (view_spelled v g))
cell_item_spelled s (cell_items.Property p) is le g = item k.Property (cell_property_may (has_view s)) (at_last (property_spelled p g))
cell_item_spelled s (cell_items.Status u) is le g = item k.Status (cell_status_may (has_view s)) (at_last (status_on_lines u g))
cell_item_spelled s (cell_items.Note (noted.Comment ts)) is le g = item k.Comment (cell_comment_may (has_view s)) (at_last (comment_spelled ts))
cell_item_spelled s (cell_items.Note (noted.User u)) is le g = item k.UserData (cell_user_may (has_view s)) (at_last (user_spelled u g))

cell_rest_spelled : (is : List CellItem) → AreOnce is_view IsCellItem [] is → Spelled (cell_rest []) (line_tokens (all form.cell_item_block is)) is
unfolding cell_rest
cell_rest_spelled is g =
    all_items (λ so_far. cell_keywords (has_view so_far)) cell_item (λ i. block_tokens (form.cell_item_block i)) (λ is. line_tokens (all form.cell_item_block is))
    (AreOnce is_view IsCellItem) refl (λ i is. refl) (λ s i is g. (cell_item_spelled s i is g.0 g.1.0, once_more is_view IsCellItem s i is g)) [] is g

cell_type_spelled : (kind : CellKind) → Spelled cell_type (tokens (form.with_part k.CellType (form.kind_form kind))) kind
unfolding cell_type has meant_by
cell_type_spelled kinds.Generic = begins _ k.CellType refl (after (a_choice kind_words _ kinds.Generic refl) (closes _))
cell_type_spelled kinds.Tie = begins _ k.CellType refl (after (a_choice kind_words _ kinds.Tie refl) (closes _))
cell_type_spelled kinds.Ripper = begins _ k.CellType refl (after (a_choice kind_words _ kinds.Ripper refl) (closes _))

abbrev cell_tokens : Cell → List Token
cell_tokens c = tokens (form.name_form c.name) ++ (tokens (form.with_part k.CellType (form.kind_form c.kind)) ++ line_tokens (all form.cell_item_block c.items))

cell_spelled : (c : Cell) → IsCell c → Spelled cell (cell_tokens c) c
unfolding cell
cell_spelled c g = then (name_spelled c.name) (then (cell_type_spelled c.kind) (at_last (cell_rest_spelled c.items (g.one_view, g.items))))

-- ---- libraries

level_spelled : Spelled level (tokens form.level_form) tt
unfolding level has
level_spelled = begins _ k.EdifLevel refl (after a_level a_close)

unit_spelled : (w : List ℕ) → Spelled unit (tokens (form.with_part k.Unit (Word w))) w
unfolding unit has
unit_spelled w = begins _ k.Unit refl (after (a_word w) (closes _))

scale_spelled : (s : Scale) → IsScale s → IsItem (k.Scale ∷ []) (λ _. scale) (tokens (form.scale_form s)) s
unfolding scale has
scale_spelled s g = item k.Scale refl (then (scaled_spelled s.left) (then (scaled_spelled s.right) (then (unit_spelled s.unit) (closes _))))

note_spelled : (n : Note) → IsNote n → IsItem note_keywords note (tokens (form.note_form n)) n
unfolding has
note_spelled (noted.Comment ts) g = item k.Comment refl (comment_spelled ts)
note_spelled (noted.User u) g = item k.UserData refl (user_spelled u g)

number_definition_spelled : (ss : List Scale) → AllByRecursion IsScale ss → Spelled number_definition (tokens (Line k.NumberDefinition (each form.scale_form ss))) ss
unfolding number_definition scales_rest has
number_definition_spelled ss g = begins _ k.NumberDefinition refl (line_items (k.Scale ∷ []) (λ _. scale) form.scale_form IsScale scale_spelled ss g)

technology_spelled : (l : Library) → IsLibrary l → Spelled technology (tokens (form.technology_form l)) (l.scales, l.notes)
unfolding technology notes_rest has
technology_spelled l g =
    begins _ k.Technology refl (then (number_definition_spelled l.scales g.scales) (at_last {g = λ ns. (l.scales, ns)} (line_items note_keywords note form.note_form IsNote note_spelled l.notes g.notes)))

library_item_spelled : (i : LibraryItem) → IsLibraryItem i → IsItem library_keywords library_item (block_tokens (form.library_item_block i)) i
unfolding has
library_item_spelled (library_items.Cell c) g = item k.Cell refl (at_last (cell_spelled c g))
library_item_spelled (library_items.Status s) g = item k.Status refl (at_last (status_on_lines s g))
library_item_spelled (library_items.Note (noted.Comment ts)) g = item k.Comment refl (at_last (comment_spelled ts))
library_item_spelled (library_items.Note (noted.User u)) g = item k.UserData refl (at_last (user_spelled u g))

abbrev library_tokens : Library → List Token
library_tokens l = tokens (form.name_form l.name) ++ (tokens form.level_form ++ (tokens (form.technology_form l) ++ line_tokens (all form.library_item_block l.items)))

library_spelled : (l : Library) → IsLibrary l → Spelled (library l.external) (library_tokens l) l
unfolding library library_rest
library_spelled l g =
    then (name_spelled l.name) (then level_spelled (then (technology_spelled l g) (at_last (block_items library_keywords library_item form.library_item_block IsLibraryItem library_item_spelled l.items g.items))))

-- ---- designs

cell_ref_spelled : (c l : List ℕ) → Spelled cell_ref (tokens (form.cell_ref_form c (Some l))) (c, l)
unfolding cell_ref library_ref has
cell_ref_spelled c l = begins _ k.CellRef refl (after (a_word c) (then (begins _ k.LibraryRef refl (after (a_word l) (closes l))) (closes _)))

design_item_spelled : (i : DesignItem) → IsDesignItem i → IsItem design_keywords design_item (tokens (form.design_item_form i)) i
unfolding has
design_item_spelled (design_items.Property p) g = item k.Property refl (at_last (property_spelled p g))
design_item_spelled (design_items.Status s) g = item k.Status refl (at_last (status_spelled s g))
design_item_spelled (design_items.Note (noted.Comment ts)) g = item k.Comment refl (at_last (comment_spelled ts))
design_item_spelled (design_items.Note (noted.User u)) g = item k.UserData refl (at_last (user_spelled u g))

design_spelled : (d : Design) → IsDesign d
    → Spelled design (tokens (form.name_form d.name) ++ (tokens (form.cell_ref_form d.cell (Some d.library)) ++ part_tokens (each form.design_item_form d.items))) d
unfolding design design_rest
design_spelled d g =
    then (name_spelled d.name) (then (cell_ref_spelled d.cell d.library) (at_last (line_items design_keywords design_item form.design_item_form IsDesignItem design_item_spelled d.items g.items)))

-- ---- the file

library_here : (external : Bool) (name : NameDef) (ss : List Scale) (ns : List Note) (is : List LibraryItem) → IsLibrary (record { external = external; name = name; scales = ss; notes = ns; items = is })
    → IsItem file_keywords file_item (block_tokens (form.library_block (record { external = external; name = name; scales = ss; notes = ns; items = is }))) (file_items.Library (record { external = external; name = name; scales = ss; notes = ns; items = is }))
unfolding has
library_here true name ss ns is g = item k.External refl (at_last (library_spelled (record { external = true; name = name; scales = ss; notes = ns; items = is }) g))
library_here false name ss ns is g = item k.Library refl (at_last (library_spelled (record { external = false; name = name; scales = ss; notes = ns; items = is }) g))

file_item_spelled : (i : FileItem) → IsFileItem i → IsItem file_keywords file_item (block_tokens (form.file_item_block i)) i
unfolding has
file_item_spelled (file_items.Library l) g = library_here l.external l.name l.scales l.notes l.items g
file_item_spelled (file_items.Design d) g = item k.Design refl (at_last (design_spelled d g))
file_item_spelled (file_items.Status s) g = item k.Status refl (at_last (status_on_lines s g))
file_item_spelled (file_items.Note (noted.Comment ts)) g = item k.Comment refl (at_last (comment_spelled ts))
file_item_spelled (file_items.Note (noted.User u)) g = item k.UserData refl (at_last (user_spelled u g))

version_spelled : Spelled version (tokens form.version_form) tt
unfolding version has
version_spelled = begins _ k.EdifVersion refl (after version_two (after version_zero (after version_zero a_close)))

keyword_level_spelled : Spelled keyword_level (t.LeftParen ∷ t.Word (spelling k.KeywordLevel) ∷ t.Number (pos 0) ∷ t.RightParen ∷ []) false
unfolding keyword_level has
keyword_level_spelled = begins _ k.KeywordLevel refl (after keyword_level_zero (closes _))

no_aliases : (table : List Alias) → Spelled (map_items false table) (t.RightParen ∷ []) table
unfolding map_items forms
no_aliases table = last_round say.at_opening _ _ table (closes table)

map_spelled : (table : List Alias) → Spelled (keyword_map table) (tokens form.map_form) table
unfolding keyword_map has
map_spelled table = begins _ k.KeywordMap refl (then keyword_level_spelled (no_aliases table))

header_spelled : (table : List Alias) → Spelled (header table) (tokens form.version_form ++ (tokens form.level_form ++ tokens form.map_form)) table
unfolding header
header_spelled table = then version_spelled (then level_spelled (map_spelled table))

body_spelled : (f : EdifFile) → IsEdifValue f → Spelled (file_body f.name) (line_tokens (all form.file_item_block f.items)) f
unfolding file_body file_rest
body_spelled f g = at_last (block_items file_keywords file_item form.file_item_block IsFileItem file_item_spelled f.items g.items)

-- The tokens of a file's forms spell the file.
pub file_spelled : (table : List Alias) (f : EdifFile) → IsEdifValue f → Spelled (file table) (block_tokens (form.file_block f)) f
unfolding file has
file_spelled table f g = begins _ k.Edif refl (then (name_spelled f.name) (then (header_spelled table) (in_context table (body_spelled f g))))
