-- What views, cells, libraries, designs and the items of a file read.
use Rattle.std.proofs.Common.{refl, ℕ, Bool, true, false, List, [], ◌∷◌}
use Rattle.grammar.specs.Part.{gives, sequence}
use Rattle.edif_values.specs.declared.keyword.Keyword.TheVariants as k
use Rattle.edif_keywords.specs.Grammar.{word, closing, choice, view_type}
use Rattle.edif_values.specs.declared.name.NameDef.{NameDef}
use Rattle.edif_values.specs.declared.note.Note.{Note}
use Rattle.edif_status.specs.Grammar.{note, note_keywords}
use Rattle.edif_values.specs.declared.view.InterfaceItem.{InterfaceItem}
use Rattle.edif_values.specs.declared.view.InterfaceItem.TheVariants as interface_items
use Rattle.edif_values.specs.declared.view.ContentsItem.{ContentsItem}
use Rattle.edif_values.specs.declared.view.ContentsItem.TheVariants as contents_items
use Rattle.edif_values.specs.declared.view.ViewItem.{ViewItem}
use Rattle.edif_values.specs.declared.view.ViewItem.TheVariants as view_items
use Rattle.edif_values.specs.declared.cell.CellItem.{CellItem}
use Rattle.edif_values.specs.declared.cell.CellItem.TheVariants as cell_items
use Rattle.edif_values.specs.declared.library.Scale.{Scale}
use Rattle.edif_values.specs.declared.library.LibraryItem.{LibraryItem}
use Rattle.edif_values.specs.declared.library.LibraryItem.TheVariants as library_items
use Rattle.edif_values.specs.declared.file.DesignItem.{DesignItem}
use Rattle.edif_values.specs.declared.file.DesignItem.TheVariants as design_items
use Rattle.edif_values.specs.declared.file.FileItem.{FileItem}
use Rattle.edif_values.specs.declared.file.FileItem.TheVariants as file_items
use Rattle.edif_library.specs.Grammar.{interface_item, interface_keywords, interface_rest, interface, contents_item, contents_keywords, contents_rest, view_item, has_contents, view_keywords, view_rest, netlist, view, kind_words, cell_type, cell_item, has_view, cell_keywords, cell_rest, cell, unit, scale, scales_rest, notes_rest, number_definition, technology, library_item, library_keywords, library_rest, library, library_ref, cell_ref, design_item, design_keywords, design_rest, design, file_item, file_keywords, file_rest, file_body}
use Rattle.edif_reasons.proofs.Forms.{Stays, Ends, Reads, ends_then, ends_as, reads_as, reads_plainly, stays_word, stays_choice, ends_with}
use Rattle.edif_reasons.proofs.Items.{Each, stays_item, ends_items}
use Rattle.edif_reasons.proofs.Trees.{reads_comment_note, reads_user_note, reads_notes}
use Rattle.edif_reasons.proofs.Header.{stays_level, reads_view_type}
use Rattle.edif_reasons.proofs.Names.{stays_name, stays_scaled, reads_property}
use Rattle.edif_reasons.proofs.Status.{reads_status}
use Rattle.edif_reasons.proofs.Nets.{reads_designator, reads_port, reads_instance, reads_net}

-- ---- interfaces and contents

each_interface : Each interface_keywords (λ q. Reads q (interface_item q))
each_interface = (
  reads_as interface_items.Port k.Port reads_port,
  (
    reads_as interface_items.Property k.Property reads_property,
    (reads_as interface_items.Designator k.Designator reads_designator, reads_notes interface_items.Note),
  ),
)

ends_interface_rest : (so_far : List InterfaceItem) → Ends (interface_rest so_far)
unfolding interface_rest
ends_interface_rest so_far = ends_items (λ _. interface_keywords) interface_item (λ _. each_interface) so_far

stays_interface : Stays interface
unfolding interface
stays_interface = stays_item (k.Interface ∷ []) (λ _. interface_rest []) (reads_plainly k.Interface refl (ends_interface_rest []), tt)

each_contents : Each contents_keywords (λ q. Reads q (contents_item q))
each_contents = (
  reads_as contents_items.Instance k.Instance reads_instance,
  (reads_as contents_items.Net k.Net reads_net, reads_notes contents_items.Note),
)

ends_contents_rest : (so_far : List ContentsItem) → Ends (contents_rest so_far)
unfolding contents_rest
ends_contents_rest so_far = ends_items (λ _. contents_keywords) contents_item (λ _. each_contents) so_far

-- ---- views

each_view : (b : Bool) → Each (view_keywords b) (λ q. Reads q (view_item q))
unfolding view_keywords
each_view false = (
  reads_plainly k.Contents refl (ends_as view_items.Contents (ends_contents_rest [])),
  (
    reads_as view_items.Property k.Property reads_property,
    (reads_as view_items.Status k.Status reads_status, reads_notes view_items.Note),
  ),
)
each_view true = (
  reads_as view_items.Property k.Property reads_property,
  (reads_as view_items.Status k.Status reads_status, reads_notes view_items.Note),
)

ends_view_rest : (so_far : List ViewItem) → Ends (view_rest so_far)
unfolding view_rest
ends_view_rest so_far = ends_items (λ s. view_keywords (has_contents s)) view_item (λ s. each_view (has_contents s)) so_far

stays_netlist : Stays netlist
unfolding netlist
stays_netlist = stays_item (k.ViewType ∷ []) (λ _. sequence view_type (λ _. closing)) (reads_view_type, tt)

ends_view : Ends view
unfolding view
ends_view = ends_then stays_name (λ n. ends_then stays_netlist
    (λ _. ends_then stays_interface (λ ps. ends_as (λ is. record { name = n; interface = ps; items = is }) (ends_view_rest []))))

-- ---- cells

ends_kind : Ends (sequence (choice kind_words) (λ kind. sequence closing (λ _. gives kind)))
ends_kind = ends_then (stays_choice kind_words) (λ kind. ends_with kind)

stays_cell_type : Stays cell_type
unfolding cell_type
stays_cell_type = stays_item (k.CellType ∷ []) (λ _. sequence (choice kind_words) (λ kind. sequence closing (λ _. gives kind)))
    (reads_plainly k.CellType refl ends_kind, tt)

each_cell : (b : Bool) → Each (cell_keywords b) (λ q. Reads q (cell_item q))
unfolding cell_keywords
each_cell false = (
  reads_plainly k.View refl (ends_as cell_items.View ends_view),
  (
    reads_as cell_items.Property k.Property reads_property,
    (reads_as cell_items.Status k.Status reads_status, reads_notes cell_items.Note),
  ),
)
each_cell true = (
  reads_as cell_items.Property k.Property reads_property,
  (reads_as cell_items.Status k.Status reads_status, reads_notes cell_items.Note),
)

ends_cell_rest : (so_far : List CellItem) → Ends (cell_rest so_far)
unfolding cell_rest
ends_cell_rest so_far = ends_items (λ s. cell_keywords (has_view s)) cell_item (λ s. each_cell (has_view s)) so_far

ends_cell : Ends cell
unfolding cell
ends_cell = ends_then stays_name (λ n. ends_then stays_cell_type
    (λ kind. ends_as (λ is. record { name = n; kind = kind; items = is }) (ends_cell_rest [])))

-- ---- libraries

ends_word : Ends (sequence word (λ w. sequence closing (λ _. gives w)))
ends_word = ends_then stays_word (λ w. ends_with w)

stays_unit : Stays unit
unfolding unit
stays_unit = stays_item (k.Unit ∷ []) (λ _. sequence word (λ w. sequence closing (λ _. gives w))) (reads_plainly k.Unit refl ends_word, tt)

ends_scale : Ends scale
unfolding scale
ends_scale = ends_then stays_scaled (λ l. ends_then stays_scaled
    (λ r. ends_then stays_unit (λ u. ends_with (record { left = l; right = r; unit = u }))))

ends_scales_rest : (so_far : List Scale) → Ends (scales_rest so_far)
unfolding scales_rest
ends_scales_rest so_far = ends_items (λ _. k.Scale ∷ []) (λ _. scale) (λ _. (reads_plainly k.Scale refl ends_scale, tt)) so_far

ends_notes_rest : (so_far : List Note) → Ends (notes_rest so_far)
unfolding notes_rest
ends_notes_rest so_far = ends_items (λ _. note_keywords) note (λ _. (reads_comment_note, (reads_user_note, tt))) so_far

stays_number_definition : Stays number_definition
unfolding number_definition
stays_number_definition = stays_item (k.NumberDefinition ∷ []) (λ _. scales_rest []) (reads_plainly k.NumberDefinition refl (ends_scales_rest []), tt)

ends_technology : Ends {A = List Scale × List Note} (sequence number_definition (λ ss. sequence (notes_rest []) (λ ns. gives (ss, ns))))
ends_technology = ends_then stays_number_definition (λ ss. ends_as (λ ns. (ss, ns)) (ends_notes_rest []))

stays_technology : Stays technology
unfolding technology
stays_technology = stays_item (k.Technology ∷ []) (λ _. sequence number_definition (λ ss. sequence (notes_rest []) (λ ns. gives (ss, ns))))
    (reads_plainly k.Technology refl ends_technology, tt)

each_library : Each library_keywords (λ q. Reads q (library_item q))
each_library = (reads_plainly k.Cell refl (ends_as library_items.Cell ends_cell), (reads_as library_items.Status k.Status reads_status, reads_notes library_items.Note))

ends_library_rest : (so_far : List LibraryItem) → Ends (library_rest so_far)
unfolding library_rest
ends_library_rest so_far = ends_items (λ _. library_keywords) library_item (λ _. each_library) so_far

ends_library : (external : Bool) → Ends (library external)
unfolding library
ends_library external =
    ends_then stays_name (λ n. ends_then stays_level (λ _. ends_then stays_technology
    (λ t. ends_as (λ is. record { external = external; name = n; scales = t.0; notes = t.1; items = is }) (ends_library_rest []))))

-- ---- designs

stays_library_ref : Stays library_ref
unfolding library_ref
stays_library_ref = stays_item (k.LibraryRef ∷ []) (λ _. sequence word (λ w. sequence closing (λ _. gives w)))
    (reads_plainly k.LibraryRef refl ends_word, tt)

ends_cell_named : Ends {A = List ℕ × List ℕ} (sequence word (λ c. sequence library_ref (λ l. sequence closing (λ _. gives (c, l)))))
ends_cell_named = ends_then stays_word (λ c. ends_then stays_library_ref (λ l. ends_with (c, l)))

stays_cell_ref : Stays cell_ref
unfolding cell_ref
stays_cell_ref = stays_item (k.CellRef ∷ []) (λ _. sequence word (λ c. sequence library_ref (λ l. sequence closing (λ _. gives (c, l)))))
    (reads_plainly k.CellRef refl ends_cell_named, tt)

each_design : Each design_keywords (λ q. Reads q (design_item q))
each_design = (
  reads_as design_items.Property k.Property reads_property,
  (reads_as design_items.Status k.Status reads_status, reads_notes design_items.Note),
)

ends_design_rest : (so_far : List DesignItem) → Ends (design_rest so_far)
unfolding design_rest
ends_design_rest so_far = ends_items (λ _. design_keywords) design_item (λ _. each_design) so_far

ends_design : Ends design
unfolding design
ends_design = ends_then stays_name (λ n. ends_then stays_cell_ref
    (λ c. ends_as (λ is. record { name = n; cell = c.0; library = c.1; items = is }) (ends_design_rest [])))

-- ---- the items of a file

each_file : Each file_keywords (λ q. Reads q (file_item q))
each_file = (
  reads_plainly k.Library refl (ends_as file_items.Library (ends_library false)),
  (
    reads_plainly k.External refl (ends_as file_items.Library (ends_library true)),
    (
      reads_plainly k.Design refl (ends_as file_items.Design ends_design),
      (reads_as file_items.Status k.Status reads_status, reads_notes file_items.Note),
    ),
  ),
)

ends_file_rest : (so_far : List FileItem) → Ends (file_rest so_far)
unfolding file_rest
ends_file_rest so_far = ends_items (λ _. file_keywords) file_item (λ _. each_file) so_far

pub ends_file_body : (n : NameDef) → Ends (file_body n)
unfolding file_body
ends_file_body n = ends_as (λ is. record { name = n; items = is }) (ends_file_rest [])
