-- Ported: live by proper tokens.
use Rattle.std.proofs.Common.{◌≡◌, refl, arith, Bool, true, false, List, [], ◌∷◌, pos, codes}
use Rattle.edif_values.specs.declared.token.Token.TheVariants.{Number}
use Rattle.edif_faults.proofs.Base.{live_one}
use Rattle.edif_values.specs.declared.keyword.Keyword.{Keyword}
use Rattle.edif_values.specs.declared.keyword.Keyword.TheVariants as k
use Rattle.edif_values.specs.Keywords.{has, same_keyword}
use Rattle.edif_names.specs.Grammar.{property}
use Rattle.edif_nets.specs.Grammar.{designator, instance, net, port}
use Rattle.edif_keywords.specs.Reasons as say
use Rattle.edif_keywords.specs.Grammar.{level}
use Rattle.edif_faults.proofs.Base.{Lives, live_as_item, live_one_of, live_word, live_closing, live_choice, live_view_type, live_keyword, live_begin, seen, live_items}
use Rattle.edif_values.specs.declared.name.NameDef.{NameDef}
use Rattle.edif_faults.proofs.NamesLive.{live_name, live_scaled, live_property}
use Rattle.edif_values.specs.declared.note.Note.{Note}
use Rattle.edif_status.specs.Grammar.{note_keywords, note, status}
use Rattle.edif_faults.proofs.StatusLive.{live_note, live_status}
use Rattle.edif_faults.proofs.NetsLive.{live_designator, live_port, live_instance, live_net}
use Rattle.edif_values.specs.declared.view.InterfaceItem.{InterfaceItem}
use Rattle.edif_values.specs.declared.view.ContentsItem.{ContentsItem}
use Rattle.edif_values.specs.declared.view.ViewItem.{ViewItem}
use Rattle.edif_values.specs.declared.cell.CellKind.TheVariants as kinds
use Rattle.edif_values.specs.declared.cell.CellItem.{CellItem}
use Rattle.edif_values.specs.declared.library.Scale.{Scale}
use Rattle.edif_values.specs.declared.library.LibraryItem.{LibraryItem}
use Rattle.edif_values.specs.declared.file.DesignItem.{DesignItem}
use Rattle.edif_values.specs.declared.file.FileItem.{FileItem}
use Rattle.edif_library.specs.Grammar.{cell, cell_item, cell_keywords, cell_ref, cell_rest, cell_type, contents_item, contents_keywords, contents_rest, design, design_item, design_keywords, design_rest, file_body, file_item, file_keywords, file_rest, has_contents, has_view, interface, interface_item, interface_keywords, interface_rest, kind_words, library, library_item, library_keywords, library_ref, library_rest, netlist, notes_rest, number_definition, scale, scales_rest, technology, unit, view, view_item, view_keywords, view_rest}

live_level : Lives level
unfolding level has
live_level table = (live_begin k.EdifLevel (k.EdifLevel ∷ []) refl table, λ _. (live_one (λ _ x. say.level_of x.token) table (seen (Number (pos 0))) tt refl (omega arith), λ _. live_closing table))

has_note : has note_keywords k.Comment ≡ true
unfolding has
has_note = refl

live_interface_item : (q : Keyword) → Lives (interface_item q)
live_interface_item q =
    live_one_of (same_keyword q k.Port) _ _ (live_as_item port live_port)
    (live_one_of (same_keyword q k.Property) _ _ (live_as_item property live_property)
    (live_one_of (same_keyword q k.Designator) _ _ (live_as_item designator live_designator) (live_as_item (note q) (live_note q))))

live_interface_rest : (so_far : List InterfaceItem) → Lives (interface_rest so_far)
unfolding interface_rest has
live_interface_rest so_far = live_items (λ _. interface_keywords) interface_item so_far (λ _. live_keyword k.Port interface_keywords refl) live_interface_item

pub live_interface : Lives interface
unfolding interface has
live_interface table = (live_begin k.Interface (k.Interface ∷ []) refl table, λ _. live_interface_rest [] table)

live_contents_item : (q : Keyword) → Lives (contents_item q)
live_contents_item q =
    live_one_of (same_keyword q k.Instance) _ _ (live_as_item instance live_instance)
    (live_one_of (same_keyword q k.Net) _ _ (live_as_item net live_net) (live_as_item (note q) (live_note q)))

live_contents_rest : (so_far : List ContentsItem) → Lives (contents_rest so_far)
unfolding contents_rest has
live_contents_rest so_far = live_items (λ _. contents_keywords) contents_item so_far (λ _. live_keyword k.Instance contents_keywords refl) live_contents_item

live_view_item : (q : Keyword) → Lives (view_item q)
live_view_item q =
    live_one_of (same_keyword q k.Contents) _ _ (live_as_item (contents_rest []) (live_contents_rest []))
    (live_one_of (same_keyword q k.Property) _ _ (live_as_item property live_property)
    (live_one_of (same_keyword q k.Status) _ _ (live_as_item status live_status) (live_as_item (note q) (live_note q))))

has_view_keyword : (b : Bool) → has (view_keywords b) k.Property ≡ true
unfolding has view_keywords
has_view_keyword true = refl
has_view_keyword false = refl

live_view_rest : (so_far : List ViewItem) → Lives (view_rest so_far)
unfolding view_rest
live_view_rest so_far = live_items (λ s. view_keywords (has_contents s)) view_item so_far (λ s. live_keyword k.Property (view_keywords (has_contents s)) (has_view_keyword (has_contents s))) live_view_item

pub live_netlist : Lives netlist
unfolding netlist has
live_netlist table = (live_begin k.ViewType (k.ViewType ∷ []) refl table, λ _. (live_view_type table, λ _. live_closing table))

pub live_view : Lives view
unfolding view
live_view table = (live_name table, λ _. (live_netlist table, λ _. (live_interface table, λ _. (live_view_rest [] table, λ _. tt))))

pub live_cell_type : Lives cell_type
unfolding cell_type has say.meant_by
live_cell_type table = (live_begin k.CellType (k.CellType ∷ []) refl table, λ _. (live_choice kind_words (codes "GENERIC") kinds.Generic refl (refl, omega arith) table, λ _. (live_closing table, λ _. tt)))

live_cell_item : (q : Keyword) → Lives (cell_item q)
live_cell_item q =
    live_one_of (same_keyword q k.View) _ _ (live_as_item view live_view)
    (live_one_of (same_keyword q k.Property) _ _ (live_as_item property live_property)
    (live_one_of (same_keyword q k.Status) _ _ (live_as_item status live_status) (live_as_item (note q) (live_note q))))

has_cell_keyword : (b : Bool) → has (cell_keywords b) k.Property ≡ true
unfolding has cell_keywords
has_cell_keyword true = refl
has_cell_keyword false = refl

live_cell_rest : (so_far : List CellItem) → Lives (cell_rest so_far)
unfolding cell_rest
live_cell_rest so_far = live_items (λ s. cell_keywords (has_view s)) cell_item so_far (λ s. live_keyword k.Property (cell_keywords (has_view s)) (has_cell_keyword (has_view s))) live_cell_item

pub live_cell : Lives cell
unfolding cell
live_cell table = (live_name table, λ _. (live_cell_type table, λ _. (live_cell_rest [] table, λ _. tt)))

pub live_unit : Lives unit
unfolding unit has
live_unit table = (live_begin k.Unit (k.Unit ∷ []) refl table, λ _. (live_word table, λ _. (live_closing table, λ _. tt)))

pub live_scale : Lives scale
unfolding scale
live_scale table = (live_scaled table, λ _. (live_scaled table, λ _. (live_unit table, λ _. (live_closing table, λ _. tt))))

live_scales_rest : (so_far : List Scale) → Lives (scales_rest so_far)
unfolding scales_rest has
live_scales_rest so_far = live_items (λ _. k.Scale ∷ []) (λ _. scale) so_far (λ _. live_keyword k.Scale (k.Scale ∷ []) refl) (λ _. live_scale)

live_notes_rest : (so_far : List Note) → Lives (notes_rest so_far)
unfolding notes_rest
live_notes_rest so_far = live_items (λ _. note_keywords) note so_far (λ _. live_keyword k.Comment note_keywords has_note) live_note

pub live_number_definition : Lives number_definition
unfolding number_definition has
live_number_definition table = (live_begin k.NumberDefinition (k.NumberDefinition ∷ []) refl table, λ _. live_scales_rest [] table)

pub live_technology : Lives technology
unfolding technology has
live_technology table = (live_begin k.Technology (k.Technology ∷ []) refl table, λ _. (live_number_definition table, λ _. (live_notes_rest [] table, λ _. tt)))

live_library_item : (q : Keyword) → Lives (library_item q)
live_library_item q =
    live_one_of (same_keyword q k.Cell) _ _ (live_as_item cell live_cell)
    (live_one_of (same_keyword q k.Status) _ _ (live_as_item status live_status) (live_as_item (note q) (live_note q)))

live_library_rest : (so_far : List LibraryItem) → Lives (library_rest so_far)
unfolding library_rest has
live_library_rest so_far = live_items (λ _. library_keywords) library_item so_far (λ _. live_keyword k.Cell library_keywords refl) live_library_item

pub live_library : (e : Bool) → Lives (library e)
unfolding library
live_library e table = (live_name table, λ _. (live_level table, λ _. (live_technology table, λ _. (live_library_rest [] table, λ _. tt))))

pub live_library_ref : Lives library_ref
unfolding library_ref has
live_library_ref table = (live_begin k.LibraryRef (k.LibraryRef ∷ []) refl table, λ _. (live_word table, λ _. (live_closing table, λ _. tt)))

pub live_cell_ref : Lives cell_ref
unfolding cell_ref has
live_cell_ref table = (live_begin k.CellRef (k.CellRef ∷ []) refl table, λ _. (live_word table, λ _. (live_library_ref table, λ _. (live_closing table, λ _. tt))))

live_design_item : (q : Keyword) → Lives (design_item q)
live_design_item q =
    live_one_of (same_keyword q k.Property) _ _ (live_as_item property live_property)
    (live_one_of (same_keyword q k.Status) _ _ (live_as_item status live_status) (live_as_item (note q) (live_note q)))

live_design_rest : (so_far : List DesignItem) → Lives (design_rest so_far)
unfolding design_rest has
live_design_rest so_far = live_items (λ _. design_keywords) design_item so_far (λ _. live_keyword k.Property design_keywords refl) live_design_item

pub live_design : Lives design
unfolding design
live_design table = (live_name table, λ _. (live_cell_ref table, λ _. (live_design_rest [] table, λ _. tt)))

live_file_item : (q : Keyword) → Lives (file_item q)
live_file_item q =
    live_one_of (same_keyword q k.Library) _ _ (live_as_item (library false) (live_library false))
    (live_one_of (same_keyword q k.External) _ _ (live_as_item (library true) (live_library true))
    (live_one_of (same_keyword q k.Design) _ _ (live_as_item design live_design)
    (live_one_of (same_keyword q k.Status) _ _ (live_as_item status live_status) (live_as_item (note q) (live_note q)))))

live_file_rest : (so_far : List FileItem) → Lives (file_rest so_far)
unfolding file_rest has
live_file_rest so_far = live_items (λ _. file_keywords) file_item so_far (λ _. live_keyword k.Library file_keywords refl) live_file_item

pub live_file_body : (n : NameDef) → Lives (file_body n)
unfolding file_body
live_file_body n table = (live_file_rest [] table, λ _. tt)
