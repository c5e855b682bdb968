-- What a file spells from the tokens of a text is a file that can be written.
use Rattle.std.proofs.Common.{◌≡◌, ◌∙◌, ℕ, refl, Bool, true, false, List, [], ◌∷◌, ◌++◌, arith}
use Rattle.std.specs.List.{AllByRecursion}
use Rattle.grammar.specs.Part.{under}
use Rattle.grammar.specs.Whole.{whole, the_end}
use Rattle.nl_base.specs.Place.{place_at_start}
use Rattle.nl_bytes.proofs.Uses.{AllByRecursion-push}
use Rattle.edif_values.specs.Proper.{AreBytes}
use Rattle.edif_tokens.proofs.Proper.{tokens_sound}
use Rattle.edif_values.specs.declared.keyword.Keyword.{Keyword}
use Rattle.edif_values.specs.declared.keyword.Keyword.TheVariants as k
use Rattle.edif_values.specs.Keywords.{has, same_keyword}
use Rattle.edif_keywords.specs.Aliases.{Alias}
use Rattle.edif_keywords.specs.Language.{Edif}
use Rattle.edif_keywords.specs.Reasons.{trailing}
use Rattle.edif_values.specs.Values.{IsWord, IsNameDef, IsNote, is_contents, is_view, IsInterfaceItem, IsContentsItem, IsViewItem, IsView, IsCellItem, IsCell, IsScale, IsLibraryItem, IsLibrary, IsDesignItem, IsDesign, IsFileItem, IsEdifValue}
use Rattle.edif_keywords.specs.Grammar.{closing, begin, level, header}
use Rattle.edif_keywords.proofs.Kept.{Kept, kept_gives, kept_then, kept_after, kept_cond, kept_weaker, kept_word, kept_items, kept_all}
use Rattle.edif_names.proofs.Kept.{kept_name, kept_scaled, kept_property}
use Rattle.edif_values.specs.declared.name.NameDef.{NameDef}
use Rattle.edif_status.specs.Grammar.{note, note_keywords}
use Rattle.edif_status.proofs.Kept.{kept_note, kept_status}
use Rattle.edif_library.proofs.Once.{AreViewItems, filled_once, no_more_contents, AreCellItems, viewed_once, no_more_views}
use Rattle.edif_nets.proofs.Kept.{kept_by, kept_designator, kept_port, kept_instance, kept_net}
use Rattle.edif_values.specs.declared.view.ViewItem.{ViewItem}
use Rattle.edif_values.specs.declared.view.ViewItem.TheVariants as view_items
use Rattle.edif_values.specs.declared.cell.CellItem.{CellItem}
use Rattle.edif_values.specs.declared.cell.CellItem.TheVariants as cell_items
use Rattle.edif_values.specs.declared.file.EdifFile.{EdifFile}
use Rattle.edif_library.specs.Text.{EdifReads}
use Rattle.edif_library.specs.Grammar.{interface_item, interface_keywords, interface_rest, interface, contents_item, contents_keywords, contents_rest, view_item, has_contents, view_keywords, view_rest, netlist, view, cell_type, cell_item, has_view, cell_keywords, cell_rest, cell, unit, scale, scales_rest, notes_rest, number_definition, technology, library_item, library_keywords, library_rest, library, library_ref, cell_ref, design_item, design_keywords, design_rest, design, file_item, file_keywords, file_rest, file_body, file}

-- ---- views

kept_interface_item : (q : Keyword) → Kept (interface_item q) IsInterfaceItem
kept_interface_item q =
    kept_cond (same_keyword q k.Port) _ _ (kept_then kept_port (λ p is. kept_gives _ is))
    (kept_cond (same_keyword q k.Property) _ _ (kept_then kept_property (λ p is. kept_gives _ is))
    (kept_cond (same_keyword q k.Designator) _ _ (kept_then kept_designator (λ s is. kept_gives _ is)) (kept_then (kept_note q) (λ n is. kept_gives _ is))))

kept_interface : Kept interface (λ is. AllByRecursion IsInterfaceItem is)
unfolding interface interface_rest
kept_interface = kept_after (begin (k.Interface ∷ [])) (λ _. kept_all IsInterfaceItem (λ _. interface_keywords) interface_item (λ _ q _. kept_interface_item q) [] tt)

kept_contents_item : (q : Keyword) → Kept (contents_item q) IsContentsItem
kept_contents_item q =
    kept_cond (same_keyword q k.Instance) _ _ (kept_then kept_instance (λ i is. kept_gives _ is))
    (kept_cond (same_keyword q k.Net) _ _ (kept_then kept_net (λ n is. kept_gives _ is)) (kept_then (kept_note q) (λ n is. kept_gives _ is)))

kept_contents : Kept (contents_rest []) (λ is. AllByRecursion IsContentsItem is)
unfolding contents_rest
kept_contents = kept_all IsContentsItem (λ _. contents_keywords) contents_item (λ _ q _. kept_contents_item q) [] tt

kept_view_item : (is : List ViewItem) → AreViewItems is → (q : Keyword) → has (view_keywords (has_contents is)) q ≡ true → Kept (view_item q) (λ i. AreViewItems (is ++ i ∷ []))
kept_view_item is all q may =
    kept_weaker
    (kept_by IsViewItem is_contents (same_keyword q k.Contents) _ _ (kept_then kept_contents (λ cs are. kept_gives (view_items.Contents cs) (are, refl)))
    (kept_cond (same_keyword q k.Property) _ _ (kept_then kept_property (λ p is. kept_gives (view_items.Property p) (is, refl)))
    (kept_cond (same_keyword q k.Status) _ _ (kept_then kept_status (λ s is. kept_gives (view_items.Status s) (is, refl)))
    (kept_then (kept_note q) (λ n is. kept_gives (view_items.Note n) (is, refl))))))
    (λ i known. (AllByRecursion-push IsViewItem is i all.0 known.0, filled_once is i (has_contents is) refl (λ e. known.1 ∙ no_more_contents (has_contents is) q may e) all.1))

kept_view_rest : Kept (view_rest []) AreViewItems
unfolding view_rest
kept_view_rest = kept_items AreViewItems (λ is. view_keywords (has_contents is)) view_item kept_view_item [] (tt, omega arith)

kept_view : Kept view IsView
unfolding view
kept_view =
    kept_then kept_name (λ n is_name. kept_after netlist (λ _. kept_then kept_interface (λ ps are_ports. kept_then kept_view_rest (λ is are.
    kept_gives _ (record { name = is_name; interface = are_ports; items = are.0; one_contents = are.1 })))))

-- ---- cells

kept_cell_item : (is : List CellItem) → AreCellItems is → (q : Keyword) → has (cell_keywords (has_view is)) q ≡ true → Kept (cell_item q) (λ i. AreCellItems (is ++ i ∷ []))
kept_cell_item is all q may =
    kept_weaker
    (kept_by IsCellItem is_view (same_keyword q k.View) _ _ (kept_then kept_view (λ v is_good. kept_gives (cell_items.View v) (is_good, refl)))
    (kept_cond (same_keyword q k.Property) _ _ (kept_then kept_property (λ p is. kept_gives (cell_items.Property p) (is, refl)))
    (kept_cond (same_keyword q k.Status) _ _ (kept_then kept_status (λ s is. kept_gives (cell_items.Status s) (is, refl)))
    (kept_then (kept_note q) (λ n is. kept_gives (cell_items.Note n) (is, refl))))))
    (λ i known. (AllByRecursion-push IsCellItem is i all.0 known.0, viewed_once is i (has_view is) refl (λ e. known.1 ∙ no_more_views (has_view is) q may e) all.1))

kept_cell_rest : Kept (cell_rest []) AreCellItems
unfolding cell_rest
kept_cell_rest = kept_items AreCellItems (λ is. cell_keywords (has_view is)) cell_item kept_cell_item [] (tt, omega arith)

kept_cell : Kept cell IsCell
unfolding cell
kept_cell = kept_then kept_name (λ n is_name. kept_after cell_type (λ kind. kept_then kept_cell_rest (λ is are. kept_gives _ (record { name = is_name; items = are.0; one_view = are.1 }))))

-- ---- libraries

kept_unit : Kept unit IsWord
unfolding unit
kept_unit = kept_after (begin (k.Unit ∷ [])) (λ _. kept_then kept_word (λ w is. kept_after closing (λ _. kept_gives w is)))

kept_scale : Kept scale IsScale
unfolding scale
kept_scale = kept_then kept_scaled (λ l is_left. kept_then kept_scaled (λ r is_right. kept_then kept_unit (λ u is_unit. kept_after closing (λ _. kept_gives _ (record { left = is_left; right = is_right; unit = is_unit })))))

kept_number_definition : Kept number_definition (λ ss. AllByRecursion IsScale ss)
unfolding number_definition scales_rest
kept_number_definition = kept_after (begin (k.NumberDefinition ∷ [])) (λ _. kept_all IsScale (λ _. k.Scale ∷ []) (λ _. scale) (λ _ _ _. kept_scale) [] tt)

kept_technology : Kept technology (λ t. AllByRecursion IsScale t.0 × AllByRecursion IsNote t.1)
unfolding technology notes_rest
kept_technology =
    kept_after (begin (k.Technology ∷ [])) (λ _. kept_then kept_number_definition (λ ss are_scales. kept_then (kept_all IsNote (λ _. note_keywords) note (λ _ q _. kept_note q) [] tt) (λ ns are_notes.
    kept_gives (ss, ns) (are_scales, are_notes))))

kept_library_item : (q : Keyword) → Kept (library_item q) IsLibraryItem
kept_library_item q =
    kept_cond (same_keyword q k.Cell) _ _ (kept_then kept_cell (λ c is. kept_gives _ is))
    (kept_cond (same_keyword q k.Status) _ _ (kept_then kept_status (λ s is. kept_gives _ is)) (kept_then (kept_note q) (λ n is. kept_gives _ is)))

kept_library_rest : Kept (library_rest []) (λ is. AllByRecursion IsLibraryItem is)
unfolding library_rest
kept_library_rest = kept_all IsLibraryItem (λ _. library_keywords) library_item (λ _ q _. kept_library_item q) [] tt

kept_library : (external : Bool) → Kept (library external) IsLibrary
unfolding library
kept_library external =
    kept_then kept_name (λ n is_name. kept_after level (λ _. kept_then kept_technology (λ t are_told. kept_then kept_library_rest (λ is are.
    kept_gives _ (record { name = is_name; scales = are_told.0; notes = are_told.1; items = are })))))

-- ---- designs

kept_library_ref : Kept library_ref IsWord
unfolding library_ref
kept_library_ref = kept_after (begin (k.LibraryRef ∷ [])) (λ _. kept_then kept_word (λ w is. kept_after closing (λ _. kept_gives w is)))

kept_cell_ref : Kept cell_ref (λ c. IsWord c.0 × IsWord c.1)
unfolding cell_ref
kept_cell_ref = kept_after (begin (k.CellRef ∷ [])) (λ _. kept_then kept_word (λ c is_cell. kept_then kept_library_ref (λ l is_library. kept_after closing (λ _. kept_gives (c, l) (is_cell, is_library)))))

kept_design_item : (q : Keyword) → Kept (design_item q) IsDesignItem
kept_design_item q =
    kept_cond (same_keyword q k.Property) _ _ (kept_then kept_property (λ p is. kept_gives _ is))
    (kept_cond (same_keyword q k.Status) _ _ (kept_then kept_status (λ s is. kept_gives _ is)) (kept_then (kept_note q) (λ n is. kept_gives _ is)))

kept_design_rest : Kept (design_rest []) (λ is. AllByRecursion IsDesignItem is)
unfolding design_rest
kept_design_rest = kept_all IsDesignItem (λ _. design_keywords) design_item (λ _ q _. kept_design_item q) [] tt

kept_design : Kept design IsDesign
unfolding design
kept_design = kept_then kept_name (λ n is_name. kept_then kept_cell_ref (λ c is_cell. kept_then kept_design_rest (λ is are. kept_gives _ (record { name = is_name; cell = is_cell.0; library = is_cell.1; items = are }))))

-- ---- the file

kept_file_item : (q : Keyword) → Kept (file_item q) IsFileItem
kept_file_item q =
    kept_cond (same_keyword q k.Library) _ _ (kept_then (kept_library false) (λ l is. kept_gives _ is))
    (kept_cond (same_keyword q k.External) _ _ (kept_then (kept_library true) (λ l is. kept_gives _ is))
    (kept_cond (same_keyword q k.Design) _ _ (kept_then kept_design (λ d is. kept_gives _ is))
    (kept_cond (same_keyword q k.Status) _ _ (kept_then kept_status (λ s is. kept_gives _ is)) (kept_then (kept_note q) (λ n is. kept_gives _ is)))))

kept_file_rest : Kept (file_rest []) (λ is. AllByRecursion IsFileItem is)
unfolding file_rest
kept_file_rest = kept_all IsFileItem (λ _. file_keywords) file_item (λ _ q _. kept_file_item q) [] tt

kept_file_body : (n : NameDef) → IsNameDef n → Kept (file_body n) IsEdifValue
unfolding file_body
kept_file_body n is_name = kept_then kept_file_rest (λ is are. kept_gives _ (record { name = is_name; items = are }))

kept_under : {A : Type 0} {p : Edif A} {Good : A → Type 0} (table : List Alias) → Kept p Good → Kept (under table p) Good
kept_under table known = record { kept = λ other ts v all spells. known.kept table ts v all spells }

pub kept_file : (table : List Alias) → Kept (file table) IsEdifValue
unfolding file
kept_file table = kept_after (begin (k.Edif ∷ [])) (λ _. kept_then kept_name (λ n is_name. kept_after (header table) (λ aliases. kept_under aliases (kept_file_body n is_name))))

kept_whole : Kept (whole trailing (file [])) IsEdifValue
unfolding whole
kept_whole = kept_then (kept_file []) (λ v is. kept_after (the_end trailing) (λ _. kept_gives v is))

-- A text of a file reads as one that can be written.
pub read_values : (bs : List ℕ) (v : EdifFile) → AreBytes bs → EdifReads bs v → IsEdifValue v
read_values bs v all reads =
    kept_whole.kept [] _ v (tokens_sound place_at_start bs all) reads.0
