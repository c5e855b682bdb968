-- Views, cells, libraries, designs and the file have no more items than tokens.
use Rattle.std.proofs.Common.{ℕ, ◌+◌, Bool, true, false, List, [], ◌∷◌, length, arith}
use Rattle.edif_values.specs.declared.keyword.Keyword.{Keyword}
use Rattle.edif_values.specs.declared.keyword.Keyword.TheVariants as k
use Rattle.edif_values.specs.Keywords.{same_keyword}
use Rattle.edif_keywords.specs.Aliases.{Alias}
use Rattle.edif_keywords.specs.Grammar.{closing, begin, level, header}
use Rattle.edif_values.specs.declared.name.NameDef.{NameDef}
use Rattle.edif_names.specs.Grammar.{name, scaled}
use Rattle.edif_values.specs.declared.note.Note.{Note}
use Rattle.edif_status.specs.Grammar.{note, note_keywords}
use Rattle.edif_nets.specs.Grammar.{designator}
use Rattle.edif_values.specs.declared.library.Scale.{Scale}
use Rattle.edif_library.specs.Grammar.{interface_item, interface_keywords, interface_rest, interface, contents_item, contents_keywords, contents_rest, view_item, has_contents, view_keywords, view_rest, netlist, view, cell_type, cell_item, has_view, cell_keywords, cell_rest, cell, unit, scale, scales_rest, notes_rest, number_definition, technology, library_item, library_keywords, library_rest, library, cell_ref, design_item, design_keywords, design_rest, design, file_item, file_keywords, file_rest, file_body, file}
use Rattle.edif_values.specs.Sizes.{list_size, note_size, interface_item_size, contents_item_size, view_item_size, view_size, cell_item_size, cell_size, library_item_size, library_size, design_item_size, design_size, file_item_size, edif_size}
use Rattle.edif_bounds.proofs.Bounds.{Bounded, bounded_gives, bounded_then, bounded_after, bounded_cond, bounded_items, bounded_behind, bounded_less, bounded_under}
use Rattle.edif_bounds.proofs.Status.{bounded_property, bounded_note, bounded_status}
use Rattle.edif_bounds.proofs.Nets.{bounded_port, bounded_instance, bounded_net}

-- ---- interfaces and contents

bounded_interface_item : (q : Keyword) → Bounded (interface_item q) interface_item_size 0
bounded_interface_item q =
    bounded_cond (same_keyword q k.Port) _ _ (bounded_then bounded_port (λ p. bounded_gives _ (omega arith)))
    (bounded_cond (same_keyword q k.Property) _ _ (bounded_then bounded_property (λ p. bounded_gives _ (omega arith)))
    (bounded_cond (same_keyword q k.Designator) _ _ (bounded_after designator (λ s. bounded_gives _ (omega arith))) (bounded_then (bounded_note q) (λ n. bounded_gives _ (omega arith)))))

bounded_interface : Bounded interface (list_size interface_item_size) 0
unfolding interface interface_rest
bounded_interface = bounded_after (begin (k.Interface ∷ [])) (λ _. bounded_items interface_item_size (λ _. interface_keywords) interface_item bounded_interface_item [])

bounded_contents_item : (q : Keyword) → Bounded (contents_item q) contents_item_size 0
bounded_contents_item q =
    bounded_cond (same_keyword q k.Instance) _ _ (bounded_then bounded_instance (λ u. bounded_gives _ (omega arith)))
    (bounded_cond (same_keyword q k.Net) _ _ (bounded_then bounded_net (λ n. bounded_gives _ (omega arith))) (bounded_then (bounded_note q) (λ n. bounded_gives _ (omega arith))))

bounded_contents : Bounded (contents_rest []) (list_size contents_item_size) 0
unfolding contents_rest
bounded_contents = bounded_items contents_item_size (λ _. contents_keywords) contents_item bounded_contents_item []

-- ---- views

bounded_view_item : (q : Keyword) → Bounded (view_item q) view_item_size 0
bounded_view_item q =
    bounded_cond (same_keyword q k.Contents) _ _ (bounded_then bounded_contents (λ is. bounded_gives _ (omega arith)))
    (bounded_cond (same_keyword q k.Property) _ _ (bounded_then bounded_property (λ p. bounded_gives _ (omega arith)))
    (bounded_cond (same_keyword q k.Status) _ _ (bounded_then bounded_status (λ s. bounded_gives _ (omega arith))) (bounded_then (bounded_note q) (λ n. bounded_gives _ (omega arith)))))

bounded_view_rest : Bounded (view_rest []) (list_size view_item_size) 0
unfolding view_rest
bounded_view_rest = bounded_items view_item_size (λ is. view_keywords (has_contents is)) view_item bounded_view_item []

bounded_view : Bounded view view_size 0
unfolding view
bounded_view =
    bounded_after name (λ n. bounded_after netlist (λ _. bounded_then bounded_interface (λ ps. bounded_then (bounded_behind (list_size interface_item_size ps) bounded_view_rest) (λ is. bounded_gives _ (omega arith)))))

-- ---- cells

bounded_cell_item : (q : Keyword) → Bounded (cell_item q) cell_item_size 0
bounded_cell_item q =
    bounded_cond (same_keyword q k.View) _ _ (bounded_then bounded_view (λ v. bounded_gives _ (omega arith)))
    (bounded_cond (same_keyword q k.Property) _ _ (bounded_then bounded_property (λ p. bounded_gives _ (omega arith)))
    (bounded_cond (same_keyword q k.Status) _ _ (bounded_then bounded_status (λ s. bounded_gives _ (omega arith))) (bounded_then (bounded_note q) (λ n. bounded_gives _ (omega arith)))))

bounded_cell_rest : Bounded (cell_rest []) (list_size cell_item_size) 0
unfolding cell_rest
bounded_cell_rest = bounded_items cell_item_size (λ is. cell_keywords (has_view is)) cell_item bounded_cell_item []

bounded_cell : Bounded cell cell_size 0
unfolding cell
bounded_cell = bounded_after name (λ n. bounded_after cell_type (λ kind. bounded_then bounded_cell_rest (λ is. bounded_gives _ (omega arith))))

-- ---- libraries

-- a scale has no items
abbrev no_size : Scale → ℕ
no_size s = 0

bounded_scale : Bounded scale no_size 0
unfolding scale
bounded_scale = bounded_after scaled (λ l. bounded_after scaled (λ r. bounded_after unit (λ u. bounded_after closing (λ _. bounded_gives _ (omega arith)))))

bounded_number_definition : Bounded number_definition length 0
unfolding number_definition scales_rest
bounded_number_definition =
    bounded_after (begin (k.NumberDefinition ∷ [])) (λ _. bounded_less (bounded_items no_size (λ _. k.Scale ∷ []) (λ _. scale) (λ _. bounded_scale) []) (λ ss. omega arith))

bounded_notes : Bounded (notes_rest []) (list_size note_size) 0
unfolding notes_rest
bounded_notes = bounded_items note_size (λ _. note_keywords) note bounded_note []

-- the scales and the notes of a technology
abbrev told_size : (List Scale × List Note) → ℕ
told_size t = list_size note_size t.1 + length t.0

bounded_technology : Bounded technology told_size 0
unfolding technology
bounded_technology =
    bounded_after (begin (k.Technology ∷ [])) (λ _. bounded_then bounded_number_definition (λ ss. bounded_then (bounded_behind (length ss) bounded_notes) (λ ns. bounded_gives (ss, ns) (omega arith))))

bounded_library_item : (q : Keyword) → Bounded (library_item q) library_item_size 0
bounded_library_item q =
    bounded_cond (same_keyword q k.Cell) _ _ (bounded_then bounded_cell (λ c. bounded_gives _ (omega arith)))
    (bounded_cond (same_keyword q k.Status) _ _ (bounded_then bounded_status (λ s. bounded_gives _ (omega arith))) (bounded_then (bounded_note q) (λ n. bounded_gives _ (omega arith))))

bounded_library_rest : Bounded (library_rest []) (list_size library_item_size) 0
unfolding library_rest
bounded_library_rest = bounded_items library_item_size (λ _. library_keywords) library_item bounded_library_item []

bounded_library : (external : Bool) → Bounded (library external) library_size 0
unfolding library
bounded_library external =
    bounded_after name (λ n. bounded_after level (λ _. bounded_then bounded_technology (λ t. bounded_then (bounded_behind (told_size t) bounded_library_rest) (λ is. bounded_gives _ (omega arith)))))

-- ---- designs

bounded_design_item : (q : Keyword) → Bounded (design_item q) design_item_size 0
bounded_design_item q =
    bounded_cond (same_keyword q k.Property) _ _ (bounded_then bounded_property (λ p. bounded_gives _ (omega arith)))
    (bounded_cond (same_keyword q k.Status) _ _ (bounded_then bounded_status (λ s. bounded_gives _ (omega arith))) (bounded_then (bounded_note q) (λ n. bounded_gives _ (omega arith))))

bounded_design_rest : Bounded (design_rest []) (list_size design_item_size) 0
unfolding design_rest
bounded_design_rest = bounded_items design_item_size (λ _. design_keywords) design_item bounded_design_item []

bounded_design : Bounded design design_size 0
unfolding design
bounded_design = bounded_after name (λ n. bounded_after cell_ref (λ c. bounded_then bounded_design_rest (λ is. bounded_gives _ (omega arith))))

-- ---- the file

bounded_file_item : (q : Keyword) → Bounded (file_item q) file_item_size 0
bounded_file_item q =
    bounded_cond (same_keyword q k.Library) _ _ (bounded_then (bounded_library false) (λ l. bounded_gives _ (omega arith)))
    (bounded_cond (same_keyword q k.External) _ _ (bounded_then (bounded_library true) (λ l. bounded_gives _ (omega arith)))
    (bounded_cond (same_keyword q k.Design) _ _ (bounded_then bounded_design (λ d. bounded_gives _ (omega arith)))
    (bounded_cond (same_keyword q k.Status) _ _ (bounded_then bounded_status (λ s. bounded_gives _ (omega arith))) (bounded_then (bounded_note q) (λ n. bounded_gives _ (omega arith))))))

bounded_file_rest : Bounded (file_rest []) (list_size file_item_size) 0
unfolding file_rest
bounded_file_rest = bounded_items file_item_size (λ _. file_keywords) file_item bounded_file_item []

bounded_file_body : (n : NameDef) → Bounded (file_body n) edif_size 0
unfolding file_body
bounded_file_body n = bounded_then bounded_file_rest (λ is. bounded_gives _ (omega arith))

-- A file has no more items than tokens.
pub bounded_file : (table : List Alias) → Bounded (file table) edif_size 0
unfolding file
bounded_file table = bounded_after (begin (k.Edif ∷ [])) (λ _. bounded_after name (λ n. bounded_after (header table) (λ aliases. bounded_under aliases (bounded_file_body n))))
