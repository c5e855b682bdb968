-- Views, cells, libraries and designs are read as the extended BNF has them.
use Rattle.std.proofs.Common.{◌≡◌, ap, refl, inl, inr, Bool, false, List, [], ◌∷◌, codes}
use Rattle.edif_values.specs.declared.keyword.Keyword.TheVariants as k
use Rattle.edif_keywords.specs.Aliases.{Alias}
use Rattle.edif_keywords.specs.Grammar.{choice, item}
use Rattle.edif_status.specs.Grammar.{note_keywords}
use Rattle.edif_values.specs.declared.view.InterfaceItem.{InterfaceItem}
use Rattle.edif_values.specs.declared.view.InterfaceItem.TheVariants as interface_items
use Rattle.edif_values.specs.declared.view.ContentsItem.{ContentsItem}
use Rattle.edif_values.specs.declared.view.ContentsItem.TheVariants as contents_items
use Rattle.edif_values.specs.declared.view.ViewItem.{ViewItem}
use Rattle.edif_values.specs.declared.view.ViewItem.TheVariants as view_items
use Rattle.edif_values.specs.declared.cell.CellKind.TheVariants as kinds
use Rattle.edif_values.specs.declared.cell.CellItem.{CellItem}
use Rattle.edif_values.specs.declared.cell.CellItem.TheVariants as cell_items
use Rattle.edif_values.specs.declared.library.LibraryItem.{LibraryItem}
use Rattle.edif_values.specs.declared.library.LibraryItem.TheVariants as library_items
use Rattle.edif_values.specs.declared.file.DesignItem.{DesignItem}
use Rattle.edif_values.specs.declared.file.DesignItem.TheVariants as design_items
use Rattle.edif_library.specs.Grammar as grammar
use Rattle.edif_values.specs.Values.{is_contents, is_view}
use Rattle.edif_library.specs.Grammar.{interface_item, interface_keywords, interface_rest, contents_item, contents_keywords, contents_rest, view_item, has_contents, view_keywords, view_rest, kind_words, cell_type, cell_item, has_view, cell_keywords, cell_rest, unit, scales_rest, notes_rest, number_definition, library_item, library_keywords, library_rest, library_ref, cell_ref, design_item, design_keywords, design_rest}
use Rattle.edif_productions.specs.Production.{Production, many, form, meaning, ◌·◌, ◌∣◌, Tokens, Texts, ident, HasTextsOf, form_of}
use Rattle.edif_productions.specs.Names.{property}
use Rattle.edif_productions.specs.Notes.{note, status}
use Rattle.edif_productions.specs.Nets.{designator, port, instance, net}
use Rattle.edif_productions.specs.Libraries.{interface, contents, view_part, netlist, view, kind, cell_part, cell, scale, technology, library_of, design}
use Rattle.edif_productions.proofs.OneToken.{words}
use Rattle.edif_productions.proofs.Combining.{ReadsOn, then_on, ends_on, ends_plainly, ends_bare, gives_on, whole_form, meant}
use Rattle.edif_productions.proofs.Alternatives.{or_form}
use Rattle.edif_productions.proofs.Alike.{on_same, plain_meaning}
use Rattle.edif_productions.proofs.Repeating.{many_forms, once_forms}
use Rattle.edif_productions.proofs.Choices.{or_word, one_word, netlists}
use Rattle.edif_productions.proofs.NameTexts.{names, scaled_numbers, properties}
use Rattle.edif_productions.proofs.NoteTexts.{all_notes, note_among, status_forms}
use Rattle.edif_productions.proofs.NetTexts.{designators, ports, instances, nets}
use Rattle.edif_productions.proofs.HeaderTexts.{levels}

-- ---- views

-- port | property | designator | note
abbrev InterfacePart : Production InterfaceItem
InterfacePart =
    meaning (λ p. interface_items.Port p) port ∣ meaning (λ p. interface_items.Property p) property
    ∣ meaning (λ s. interface_items.Designator s) designator ∣ meaning (λ n. interface_items.Note n) note

interface_parts : HasTextsOf (item interface_keywords interface_item) InterfacePart
interface_parts =
    or_form interface_item k.Port (k.Property ∷ k.Designator ∷ note_keywords) (meant (k.Port ∷ []) (λ p. interface_items.Port p) ports)
    (or_form interface_item k.Property (k.Designator ∷ note_keywords) (meant (k.Property ∷ []) (λ p. interface_items.Property p) properties)
    (or_form interface_item k.Designator note_keywords (meant (k.Designator ∷ []) (λ s. interface_items.Designator s) designators)
    (note_among (λ n. interface_items.Note n) interface_item refl refl)))

pub interfaces : HasTextsOf grammar.interface interface
unfolding interface grammar.interface interface_rest
interfaces = whole_form k.Interface (many_forms interface_keywords interface_parts)

-- instance | net | note
abbrev ContentsPart : Production ContentsItem
ContentsPart = meaning (λ u. contents_items.Instance u) instance ∣ meaning (λ n. contents_items.Net n) net ∣ meaning (λ n. contents_items.Note n) note

contents_parts : HasTextsOf (item contents_keywords contents_item) ContentsPart
contents_parts =
    or_form contents_item k.Instance (k.Net ∷ note_keywords) (meant (k.Instance ∷ []) (λ u. contents_items.Instance u) instances)
    (or_form contents_item k.Net note_keywords (meant (k.Net ∷ []) (λ n. contents_items.Net n) nets)
    (note_among (λ n. contents_items.Note n) contents_item refl refl))

pub all_contents : HasTextsOf (form_of k.Contents (contents_rest [])) contents
unfolding contents contents_rest
all_contents = whole_form k.Contents (many_forms contents_keywords contents_parts)

view_parts : HasTextsOf (item (k.Property ∷ k.Status ∷ note_keywords) view_item) view_part
view_parts =
    or_form view_item k.Property (k.Status ∷ note_keywords) (meant (k.Property ∷ []) (λ p. view_items.Property p) properties)
    (or_form view_item k.Status note_keywords (meant (k.Status ∷ []) (λ s. view_items.Status s) status_forms)
    (note_among (λ n. view_items.Note n) view_item refl refl))

first_view_parts : HasTextsOf (item (k.Contents ∷ k.Property ∷ k.Status ∷ note_keywords) view_item)
    (meaning (λ is. view_items.Contents is) contents ∣ view_part)
first_view_parts =
    or_form view_item k.Contents (k.Property ∷ k.Status ∷ note_keywords)
    (meant (k.Contents ∷ []) (λ is. view_items.Contents is) all_contents) view_parts

no_contents : (aliases : List Alias) (ts : Tokens) (i : ViewItem) → Texts aliases view_part ts i → is_contents i ≡ false
no_contents aliases ts i (inl (p, t, e)) = ap is_contents e
no_contents aliases ts i (inr (inl (s, t, e))) = ap is_contents e
no_contents aliases ts i (inr (inr (n, t, e))) = ap is_contents e

view_types : HasTextsOf grammar.netlist netlist
unfolding grammar.netlist
view_types = whole_form k.ViewType (ends_bare netlists)

pub views : HasTextsOf (form_of k.View grammar.view) view
unfolding view grammar.view view_rest has_contents view_keywords
views =
    whole_form k.View (then_on (λ n x. record { name = n; interface = x.1.0; items = x.1.1 }) names
    (λ n. then_on (λ _ x. record { name = n; interface = x.0; items = x.1 }) view_types
    (λ _. then_on (λ ps is. record { name = n; interface = ps; items = is }) interfaces
    (λ ps. gives_on (λ is. record { name = n; interface = ps; items = is })
    (once_forms is_contents view_keywords (λ is. view_items.Contents is) first_view_parts view_parts (λ is. refl) no_contents)))))

-- ---- cells

kind_choices : HasTextsOf (choice kind_words) kind
kind_choices =
    or_word (codes "GENERIC") kinds.Generic ((codes "TIE", kinds.Tie) ∷ (codes "RIPPER", kinds.Ripper) ∷ []) refl
    (or_word (codes "TIE") kinds.Tie ((codes "RIPPER", kinds.Ripper) ∷ []) refl (one_word (codes "RIPPER") kinds.Ripper))

cell_types : HasTextsOf cell_type (form k.CellType kind)
unfolding cell_type
cell_types = whole_form k.CellType (ends_plainly kind_choices)

cell_parts : HasTextsOf (item (k.Property ∷ k.Status ∷ note_keywords) cell_item) cell_part
cell_parts =
    or_form cell_item k.Property (k.Status ∷ note_keywords) (meant (k.Property ∷ []) (λ p. cell_items.Property p) properties)
    (or_form cell_item k.Status note_keywords (meant (k.Status ∷ []) (λ s. cell_items.Status s) status_forms)
    (note_among (λ n. cell_items.Note n) cell_item refl refl))

first_cell_parts : HasTextsOf (item (k.View ∷ k.Property ∷ k.Status ∷ note_keywords) cell_item) (meaning (λ v. cell_items.View v) view ∣ cell_part)
first_cell_parts = or_form cell_item k.View (k.Property ∷ k.Status ∷ note_keywords) (meant (k.View ∷ []) (λ v. cell_items.View v) views) cell_parts

no_view : (aliases : List Alias) (ts : Tokens) (i : CellItem) → Texts aliases cell_part ts i → is_view i ≡ false
no_view aliases ts i (inl (p, t, e)) = ap is_view e
no_view aliases ts i (inr (inl (s, t, e))) = ap is_view e
no_view aliases ts i (inr (inr (n, t, e))) = ap is_view e

pub cells : HasTextsOf (form_of k.Cell grammar.cell) cell
unfolding cell grammar.cell cell_rest has_view cell_keywords
cells =
    whole_form k.Cell (then_on (λ n x. record { name = n; kind = x.0; items = x.1 }) names
    (λ n. then_on (λ q is. record { name = n; kind = q; items = is }) cell_types
    (λ q. gives_on (λ is. record { name = n; kind = q; items = is })
    (once_forms is_view cell_keywords (λ v. cell_items.View v) first_cell_parts cell_parts (λ v. refl) no_view))))

-- ---- libraries

units : HasTextsOf unit (form k.Unit ident)
unfolding unit
units = whole_form k.Unit (ends_plainly words)

pub scales : HasTextsOf (form_of k.Scale grammar.scale) scale
unfolding scale grammar.scale
scales =
    whole_form k.Scale (then_on (λ l x. record { left = l; right = x.0; unit = x.1 }) scaled_numbers
    (λ l. then_on (λ r u. record { left = l; right = r; unit = u }) scaled_numbers
    (λ r. ends_on (λ u. record { left = l; right = r; unit = u }) units)))

number_definitions : HasTextsOf number_definition (form k.NumberDefinition (many scale))
unfolding number_definition scales_rest
number_definitions = whole_form k.NumberDefinition (many_forms (k.Scale ∷ []) scales)

technologies : HasTextsOf grammar.technology technology
unfolding grammar.technology notes_rest
technologies =
    whole_form k.Technology (on_same (plain_meaning (form k.NumberDefinition (many scale) · many note))
    (then_on (λ ss ns. (ss, ns)) number_definitions (λ ss. gives_on (λ ns. (ss, ns)) (many_forms note_keywords all_notes))))

-- cell | status | note
abbrev LibraryPart : Production LibraryItem
LibraryPart = meaning (λ c. library_items.Cell c) cell ∣ meaning (λ s. library_items.Status s) status ∣ meaning (λ n. library_items.Note n) note

library_parts : HasTextsOf (item library_keywords library_item) LibraryPart
library_parts =
    or_form library_item k.Cell (k.Status ∷ note_keywords) (meant (k.Cell ∷ []) (λ c. library_items.Cell c) cells)
    (or_form library_item k.Status note_keywords (meant (k.Status ∷ []) (λ s. library_items.Status s) status_forms)
    (note_among (λ n. library_items.Note n) library_item refl refl))

pub library_bodies : (external : Bool) → ReadsOn (grammar.library external) (library_of external)
unfolding grammar.library library_rest
library_bodies external =
    then_on (λ n x. record { external = external; name = n; scales = x.1.0.0; notes = x.1.0.1; items = x.1.1 }) names
    (λ n. then_on (λ _ x. record { external = external; name = n; scales = x.0.0; notes = x.0.1; items = x.1 }) levels
    (λ _. then_on (λ t is. record { external = external; name = n; scales = t.0; notes = t.1; items = is }) technologies
    (λ t. gives_on (λ is. record { external = external; name = n; scales = t.0; notes = t.1; items = is })
    (many_forms library_keywords library_parts))))

-- ---- designs

library_refs : HasTextsOf library_ref (form k.LibraryRef ident)
unfolding library_ref
library_refs = whole_form k.LibraryRef (ends_plainly words)

cell_refs : HasTextsOf cell_ref (form k.CellRef (ident · form k.LibraryRef ident))
unfolding cell_ref
cell_refs =
    whole_form k.CellRef (on_same (plain_meaning (ident · form k.LibraryRef ident))
    (then_on (λ c l. (c, l)) words (λ c. ends_on (λ l. (c, l)) library_refs)))

-- property | status | note
abbrev DesignPart : Production DesignItem
DesignPart = meaning (λ p. design_items.Property p) property ∣ meaning (λ s. design_items.Status s) status ∣ meaning (λ n. design_items.Note n) note

design_parts : HasTextsOf (item design_keywords design_item) DesignPart
design_parts =
    or_form design_item k.Property (k.Status ∷ note_keywords) (meant (k.Property ∷ []) (λ p. design_items.Property p) properties)
    (or_form design_item k.Status note_keywords (meant (k.Status ∷ []) (λ s. design_items.Status s) status_forms)
    (note_among (λ n. design_items.Note n) design_item refl refl))

pub designs : HasTextsOf (form_of k.Design grammar.design) design
unfolding design grammar.design design_rest
designs =
    whole_form k.Design (then_on (λ n x. record { name = n; cell = x.0.0; library = x.0.1; items = x.1 }) names
    (λ n. then_on (λ c is. record { name = n; cell = c.0; library = c.1; items = is }) cell_refs
    (λ c. gives_on (λ is. record { name = n; cell = c.0; library = c.1; items = is }) (many_forms design_keywords design_parts))))
