-- From each place in a view, cell, library, design or file some tokens lead to its end, and none of its texts goes on to another.
use Rattle.std.proofs.Common.{◌≡◌, refl, Bool, true, false, List, [], ◌∷◌, pos, codes}
use Rattle.edif_values.specs.declared.token.Token.TheVariants.{Number}
use Rattle.grammar.specs.Part.{under}
use Rattle.readers.proofs.Items.{live_as_item, closed_as_item, live_one_of, closed_one_of}
use Rattle.edif_names.specs.Grammar.{property}
use Rattle.edif_nets.specs.Grammar.{designator, instance, net, port}
use Rattle.readers.proofs.Shapes.{live_one, Shut, shut_gives, shut_one, shut_then}
use Rattle.edif_values.specs.declared.keyword.Keyword.{Keyword}
use Rattle.edif_values.specs.declared.keyword.Keyword.TheVariants as k
use Rattle.edif_values.specs.Keywords.{has, same_keyword}
use Rattle.edif_keywords.specs.Aliases.{Alias}
use Rattle.edif_keywords.specs.Language.{Edif}
use Rattle.edif_keywords.specs.Reasons as say
use Rattle.edif_keywords.specs.Grammar.{choice, view_type, level}
use Rattle.edif_keywords.proofs.Live.{Lives, Closes, live_word, live_closing, live_choice, live_view_type, live_keyword, live_begin, closed_closing, closed_begin, seen, live_items, closed_items, live_header, closed_header}
use Rattle.edif_values.specs.declared.name.NameDef.{NameDef}
use Rattle.edif_names.proofs.Live.{closed_word, live_name, closed_name, live_scaled, closed_scaled, live_property, closed_property}
use Rattle.edif_values.specs.declared.note.Note.{Note}
use Rattle.edif_status.specs.Grammar.{note_keywords, note, status}
use Rattle.edif_status.proofs.Live.{live_note, closed_note, live_status, closed_status}
use Rattle.edif_nets.proofs.Live.{live_designator, closed_designator, live_port, closed_port, live_instance, closed_instance, live_net, closed_net}
use Rattle.edif_values.specs.declared.view.InterfaceItem.{InterfaceItem}
use Rattle.edif_values.specs.declared.view.ContentsItem.{ContentsItem}
use Rattle.edif_values.specs.declared.view.ViewItem.{ViewItem}
use Rattle.edif_values.specs.declared.cell.CellKind.TheVariants as kinds
use Rattle.edif_values.specs.declared.cell.CellItem.{CellItem}
use Rattle.edif_values.specs.declared.library.Scale.{Scale}
use Rattle.edif_values.specs.declared.library.LibraryItem.{LibraryItem}
use Rattle.edif_values.specs.declared.file.DesignItem.{DesignItem}
use Rattle.edif_values.specs.declared.file.FileItem.{FileItem}
use Rattle.edif_library.specs.Grammar.{cell, cell_item, cell_keywords, cell_ref, cell_rest, cell_type, contents_item, contents_keywords, contents_rest, design, design_item, design_keywords, design_rest, file, file_body, file_item, file_keywords, file_rest, has_contents, has_view, interface, interface_item, interface_keywords, interface_rest, kind_words, library, library_item, library_keywords, library_ref, library_rest, netlist, notes_rest, number_definition, scale, scales_rest, technology, unit, view, view_item, view_keywords, view_rest}

-- ---- parts of the crates below

-- what is read under other aliases
shut_under : {A : Type 0} {p : Edif A} (table other : List Alias) → Shut other p → Shut table (under other p)
shut_under table other h = record { closed = h.closed }

closed_view_type : Closes view_type
closed_view_type table = shut_one table (λ _ x. say.view_type_of x.token)

live_level : Lives level
unfolding level has
live_level table = (live_begin k.EdifLevel (k.EdifLevel ∷ []) refl table, λ _. (live_one (λ _ x. say.level_of x.token) table (seen (Number (pos 0))) tt refl, λ _. live_closing table))

closed_level : Closes level
unfolding level
closed_level table = shut_then (closed_begin (k.EdifLevel ∷ []) table) (λ _. shut_then (shut_one table (λ _ x. say.level_of x.token)) (λ _. closed_closing table))

closed_choice_of_kinds : Closes (choice kind_words)
closed_choice_of_kinds table = shut_one table (λ _ x. say.choice_of kind_words x.token)

-- the keyword of a comment may stand among notes
has_note : has note_keywords k.Comment ≡ true
unfolding has
has_note = refl

-- ---- interfaces and contents

live_interface_item : (q : Keyword) → Lives (interface_item q)
live_interface_item q =
    live_one_of (same_keyword q k.Port) _ _ (live_as_item port live_port)
    (live_one_of (same_keyword q k.Property) _ _ (live_as_item property live_property)
    (live_one_of (same_keyword q k.Designator) _ _ (live_as_item designator live_designator) (live_as_item (note q) (live_note q))))

closed_interface_item : (q : Keyword) → Closes (interface_item q)
closed_interface_item q =
    closed_one_of (same_keyword q k.Port) _ _ (closed_as_item closed_port)
    (closed_one_of (same_keyword q k.Property) _ _ (closed_as_item closed_property)
    (closed_one_of (same_keyword q k.Designator) _ _ (closed_as_item closed_designator) (closed_as_item (closed_note q))))

live_interface_rest : (so_far : List InterfaceItem) → Lives (interface_rest so_far)
unfolding interface_rest has
live_interface_rest so_far = live_items (λ _. interface_keywords) interface_item so_far (λ _. live_keyword k.Port interface_keywords refl) live_interface_item

closed_interface_rest : (so_far : List InterfaceItem) → Closes (interface_rest so_far)
unfolding interface_rest
closed_interface_rest so_far = closed_items (λ _. interface_keywords) interface_item so_far closed_interface_item

pub live_interface : Lives interface
unfolding interface has
live_interface table = (live_begin k.Interface (k.Interface ∷ []) refl table, λ _. live_interface_rest [] table)

pub closed_interface : Closes interface
unfolding interface
closed_interface table = shut_then (closed_begin (k.Interface ∷ []) table) (λ _. closed_interface_rest [] table)

live_contents_item : (q : Keyword) → Lives (contents_item q)
live_contents_item q =
    live_one_of (same_keyword q k.Instance) _ _ (live_as_item instance live_instance)
    (live_one_of (same_keyword q k.Net) _ _ (live_as_item net live_net) (live_as_item (note q) (live_note q)))

closed_contents_item : (q : Keyword) → Closes (contents_item q)
closed_contents_item q =
    closed_one_of (same_keyword q k.Instance) _ _ (closed_as_item closed_instance)
    (closed_one_of (same_keyword q k.Net) _ _ (closed_as_item closed_net) (closed_as_item (closed_note q)))

live_contents_rest : (so_far : List ContentsItem) → Lives (contents_rest so_far)
unfolding contents_rest has
live_contents_rest so_far = live_items (λ _. contents_keywords) contents_item so_far (λ _. live_keyword k.Instance contents_keywords refl) live_contents_item

closed_contents_rest : (so_far : List ContentsItem) → Closes (contents_rest so_far)
unfolding contents_rest
closed_contents_rest so_far = closed_items (λ _. contents_keywords) contents_item so_far closed_contents_item

-- ---- views

live_view_item : (q : Keyword) → Lives (view_item q)
live_view_item q =
    live_one_of (same_keyword q k.Contents) _ _ (live_as_item (contents_rest []) (live_contents_rest []))
    (live_one_of (same_keyword q k.Property) _ _ (live_as_item property live_property)
    (live_one_of (same_keyword q k.Status) _ _ (live_as_item status live_status) (live_as_item (note q) (live_note q))))

closed_view_item : (q : Keyword) → Closes (view_item q)
closed_view_item q =
    closed_one_of (same_keyword q k.Contents) _ _ (closed_as_item (closed_contents_rest []))
    (closed_one_of (same_keyword q k.Property) _ _ (closed_as_item closed_property)
    (closed_one_of (same_keyword q k.Status) _ _ (closed_as_item closed_status) (closed_as_item (closed_note q))))

-- a property may stand in a view, with contents or without
has_view_keyword : (b : Bool) → has (view_keywords b) k.Property ≡ true
unfolding has view_keywords
has_view_keyword true = refl
has_view_keyword false = refl

live_view_rest : (so_far : List ViewItem) → Lives (view_rest so_far)
unfolding view_rest
live_view_rest so_far = live_items (λ s. view_keywords (has_contents s)) view_item so_far (λ s. live_keyword k.Property (view_keywords (has_contents s)) (has_view_keyword (has_contents s))) live_view_item

closed_view_rest : (so_far : List ViewItem) → Closes (view_rest so_far)
unfolding view_rest
closed_view_rest so_far = closed_items (λ s. view_keywords (has_contents s)) view_item so_far closed_view_item

pub live_netlist : Lives netlist
unfolding netlist has
live_netlist table = (live_begin k.ViewType (k.ViewType ∷ []) refl table, λ _. (live_view_type table, λ _. live_closing table))

pub closed_netlist : Closes netlist
unfolding netlist
closed_netlist table = shut_then (closed_begin (k.ViewType ∷ []) table) (λ _. shut_then (closed_view_type table) (λ _. closed_closing table))

pub live_view : Lives view
unfolding view
live_view table = (live_name table, λ _. (live_netlist table, λ _. (live_interface table, λ _. (live_view_rest [] table, λ _. tt))))

pub closed_view : Closes view
unfolding view
closed_view table = shut_then (closed_name table) (λ _. shut_then (closed_netlist table) (λ _. shut_then (closed_interface table) (λ _. shut_then (closed_view_rest [] table) (λ _. shut_gives table _))))

-- ---- cells

pub live_cell_type : Lives cell_type
unfolding cell_type has say.meant_by
live_cell_type table = (live_begin k.CellType (k.CellType ∷ []) refl table, λ _. (live_choice kind_words (codes "GENERIC") kinds.Generic refl table, λ _. (live_closing table, λ _. tt)))

pub closed_cell_type : Closes cell_type
unfolding cell_type
closed_cell_type table = shut_then (closed_begin (k.CellType ∷ []) table) (λ _. shut_then (closed_choice_of_kinds table) (λ _. shut_then (closed_closing table) (λ _. shut_gives table _)))

live_cell_item : (q : Keyword) → Lives (cell_item q)
live_cell_item q =
    live_one_of (same_keyword q k.View) _ _ (live_as_item view live_view)
    (live_one_of (same_keyword q k.Property) _ _ (live_as_item property live_property)
    (live_one_of (same_keyword q k.Status) _ _ (live_as_item status live_status) (live_as_item (note q) (live_note q))))

closed_cell_item : (q : Keyword) → Closes (cell_item q)
closed_cell_item q =
    closed_one_of (same_keyword q k.View) _ _ (closed_as_item closed_view)
    (closed_one_of (same_keyword q k.Property) _ _ (closed_as_item closed_property)
    (closed_one_of (same_keyword q k.Status) _ _ (closed_as_item closed_status) (closed_as_item (closed_note q))))

-- a property may stand in a cell, with a view or without
has_cell_keyword : (b : Bool) → has (cell_keywords b) k.Property ≡ true
unfolding has cell_keywords
has_cell_keyword true = refl
has_cell_keyword false = refl

live_cell_rest : (so_far : List CellItem) → Lives (cell_rest so_far)
unfolding cell_rest
live_cell_rest so_far = live_items (λ s. cell_keywords (has_view s)) cell_item so_far (λ s. live_keyword k.Property (cell_keywords (has_view s)) (has_cell_keyword (has_view s))) live_cell_item

closed_cell_rest : (so_far : List CellItem) → Closes (cell_rest so_far)
unfolding cell_rest
closed_cell_rest so_far = closed_items (λ s. cell_keywords (has_view s)) cell_item so_far closed_cell_item

pub live_cell : Lives cell
unfolding cell
live_cell table = (live_name table, λ _. (live_cell_type table, λ _. (live_cell_rest [] table, λ _. tt)))

pub closed_cell : Closes cell
unfolding cell
closed_cell table = shut_then (closed_name table) (λ _. shut_then (closed_cell_type table) (λ _. shut_then (closed_cell_rest [] table) (λ _. shut_gives table _)))

-- ---- libraries

pub live_unit : Lives unit
unfolding unit has
live_unit table = (live_begin k.Unit (k.Unit ∷ []) refl table, λ _. (live_word table, λ _. (live_closing table, λ _. tt)))

pub closed_unit : Closes unit
unfolding unit
closed_unit table = shut_then (closed_begin (k.Unit ∷ []) table) (λ _. shut_then (closed_word table) (λ _. shut_then (closed_closing table) (λ _. shut_gives table _)))

pub live_scale : Lives scale
unfolding scale
live_scale table = (live_scaled table, λ _. (live_scaled table, λ _. (live_unit table, λ _. (live_closing table, λ _. tt))))

pub closed_scale : Closes scale
unfolding scale
closed_scale table = shut_then (closed_scaled table) (λ _. shut_then (closed_scaled table) (λ _. shut_then (closed_unit table) (λ _. shut_then (closed_closing table) (λ _. shut_gives table _))))

live_scales_rest : (so_far : List Scale) → Lives (scales_rest so_far)
unfolding scales_rest has
live_scales_rest so_far = live_items (λ _. k.Scale ∷ []) (λ _. scale) so_far (λ _. live_keyword k.Scale (k.Scale ∷ []) refl) (λ _. live_scale)

closed_scales_rest : (so_far : List Scale) → Closes (scales_rest so_far)
unfolding scales_rest
closed_scales_rest so_far = closed_items (λ _. k.Scale ∷ []) (λ _. scale) so_far (λ _. closed_scale)

live_notes_rest : (so_far : List Note) → Lives (notes_rest so_far)
unfolding notes_rest
live_notes_rest so_far = live_items (λ _. note_keywords) note so_far (λ _. live_keyword k.Comment note_keywords has_note) live_note

closed_notes_rest : (so_far : List Note) → Closes (notes_rest so_far)
unfolding notes_rest
closed_notes_rest so_far = closed_items (λ _. note_keywords) note so_far closed_note

pub live_number_definition : Lives number_definition
unfolding number_definition has
live_number_definition table = (live_begin k.NumberDefinition (k.NumberDefinition ∷ []) refl table, λ _. live_scales_rest [] table)

pub closed_number_definition : Closes number_definition
unfolding number_definition
closed_number_definition table = shut_then (closed_begin (k.NumberDefinition ∷ []) table) (λ _. closed_scales_rest [] table)

pub live_technology : Lives technology
unfolding technology has
live_technology table = (live_begin k.Technology (k.Technology ∷ []) refl table, λ _. (live_number_definition table, λ _. (live_notes_rest [] table, λ _. tt)))

pub closed_technology : Closes technology
unfolding technology
closed_technology table = shut_then (closed_begin (k.Technology ∷ []) table) (λ _. shut_then (closed_number_definition table) (λ _. shut_then (closed_notes_rest [] table) (λ _. shut_gives table _)))

live_library_item : (q : Keyword) → Lives (library_item q)
live_library_item q =
    live_one_of (same_keyword q k.Cell) _ _ (live_as_item cell live_cell)
    (live_one_of (same_keyword q k.Status) _ _ (live_as_item status live_status) (live_as_item (note q) (live_note q)))

closed_library_item : (q : Keyword) → Closes (library_item q)
closed_library_item q =
    closed_one_of (same_keyword q k.Cell) _ _ (closed_as_item closed_cell)
    (closed_one_of (same_keyword q k.Status) _ _ (closed_as_item closed_status) (closed_as_item (closed_note q)))

live_library_rest : (so_far : List LibraryItem) → Lives (library_rest so_far)
unfolding library_rest has
live_library_rest so_far = live_items (λ _. library_keywords) library_item so_far (λ _. live_keyword k.Cell library_keywords refl) live_library_item

closed_library_rest : (so_far : List LibraryItem) → Closes (library_rest so_far)
unfolding library_rest
closed_library_rest so_far = closed_items (λ _. library_keywords) library_item so_far closed_library_item

pub live_library : (e : Bool) → Lives (library e)
unfolding library
live_library e table = (live_name table, λ _. (live_level table, λ _. (live_technology table, λ _. (live_library_rest [] table, λ _. tt))))

pub closed_library : (e : Bool) → Closes (library e)
unfolding library
closed_library e table = shut_then (closed_name table) (λ _. shut_then (closed_level table) (λ _. shut_then (closed_technology table) (λ _. shut_then (closed_library_rest [] table) (λ _. shut_gives table _))))

-- ---- designs

pub live_library_ref : Lives library_ref
unfolding library_ref has
live_library_ref table = (live_begin k.LibraryRef (k.LibraryRef ∷ []) refl table, λ _. (live_word table, λ _. (live_closing table, λ _. tt)))

pub closed_library_ref : Closes library_ref
unfolding library_ref
closed_library_ref table = shut_then (closed_begin (k.LibraryRef ∷ []) table) (λ _. shut_then (closed_word table) (λ _. shut_then (closed_closing table) (λ _. shut_gives table _)))

pub live_cell_ref : Lives cell_ref
unfolding cell_ref has
live_cell_ref table = (live_begin k.CellRef (k.CellRef ∷ []) refl table, λ _. (live_word table, λ _. (live_library_ref table, λ _. (live_closing table, λ _. tt))))

pub closed_cell_ref : Closes cell_ref
unfolding cell_ref
closed_cell_ref table = shut_then (closed_begin (k.CellRef ∷ []) table) (λ _. shut_then (closed_word table) (λ _. shut_then (closed_library_ref table) (λ _. shut_then (closed_closing table) (λ _. shut_gives table _))))

live_design_item : (q : Keyword) → Lives (design_item q)
live_design_item q =
    live_one_of (same_keyword q k.Property) _ _ (live_as_item property live_property)
    (live_one_of (same_keyword q k.Status) _ _ (live_as_item status live_status) (live_as_item (note q) (live_note q)))

closed_design_item : (q : Keyword) → Closes (design_item q)
closed_design_item q =
    closed_one_of (same_keyword q k.Property) _ _ (closed_as_item closed_property)
    (closed_one_of (same_keyword q k.Status) _ _ (closed_as_item closed_status) (closed_as_item (closed_note q)))

live_design_rest : (so_far : List DesignItem) → Lives (design_rest so_far)
unfolding design_rest has
live_design_rest so_far = live_items (λ _. design_keywords) design_item so_far (λ _. live_keyword k.Property design_keywords refl) live_design_item

closed_design_rest : (so_far : List DesignItem) → Closes (design_rest so_far)
unfolding design_rest
closed_design_rest so_far = closed_items (λ _. design_keywords) design_item so_far closed_design_item

pub live_design : Lives design
unfolding design
live_design table = (live_name table, λ _. (live_cell_ref table, λ _. (live_design_rest [] table, λ _. tt)))

pub closed_design : Closes design
unfolding design
closed_design table = shut_then (closed_name table) (λ _. shut_then (closed_cell_ref table) (λ _. shut_then (closed_design_rest [] table) (λ _. shut_gives table _)))

-- ---- the file

live_file_item : (q : Keyword) → Lives (file_item q)
live_file_item q =
    live_one_of (same_keyword q k.Library) _ _ (live_as_item (library false) (live_library false))
    (live_one_of (same_keyword q k.External) _ _ (live_as_item (library true) (live_library true))
    (live_one_of (same_keyword q k.Design) _ _ (live_as_item design live_design)
    (live_one_of (same_keyword q k.Status) _ _ (live_as_item status live_status) (live_as_item (note q) (live_note q)))))

closed_file_item : (q : Keyword) → Closes (file_item q)
closed_file_item q =
    closed_one_of (same_keyword q k.Library) _ _ (closed_as_item (closed_library false))
    (closed_one_of (same_keyword q k.External) _ _ (closed_as_item (closed_library true))
    (closed_one_of (same_keyword q k.Design) _ _ (closed_as_item closed_design)
    (closed_one_of (same_keyword q k.Status) _ _ (closed_as_item closed_status) (closed_as_item (closed_note q)))))

live_file_rest : (so_far : List FileItem) → Lives (file_rest so_far)
unfolding file_rest has
live_file_rest so_far = live_items (λ _. file_keywords) file_item so_far (λ _. live_keyword k.Library file_keywords refl) live_file_item

closed_file_rest : (so_far : List FileItem) → Closes (file_rest so_far)
unfolding file_rest
closed_file_rest so_far = closed_items (λ _. file_keywords) file_item so_far closed_file_item

pub live_file_body : (n : NameDef) → Lives (file_body n)
unfolding file_body
live_file_body n table = (live_file_rest [] table, λ _. tt)

pub closed_file_body : (n : NameDef) → Closes (file_body n)
unfolding file_body
closed_file_body n table = shut_then (closed_file_rest [] table) (λ _. shut_gives table _)

-- the whole file
pub live_file : (t : List Alias) → Lives (file t)
unfolding file has
live_file t table = (live_begin k.Edif (k.Edif ∷ []) refl table, λ _. (live_name table, λ n. (live_header t table, λ aliases. live_file_body n aliases)))

pub closed_file : (t : List Alias) → Closes (file t)
unfolding file
closed_file t table = shut_then (closed_begin (k.Edif ∷ []) table) (λ _. shut_then (closed_name table) (λ n. shut_then (closed_header t table) (λ aliases. shut_under table aliases (closed_file_body n aliases))))
