-- The productions of views, cells, libraries, designs and the file depend on no place, and neither does a whole text.
use Rattle.std.proofs.Common.{◌≡◌, refl, Bool, true, false, []}
use Rattle.edif_names.specs.Grammar.{property}
use Rattle.edif_nets.specs.Grammar.{designator, instance, net, port}
use Rattle.grammar.specs.Whole.{Terminal, proper, end, end_of, the_end, whole}
use Rattle.grammar_alike.specs.Alike.{Respects}
use Rattle.nl_base.specs.declared.place.Place.{Place}
use Rattle.edif_tokens.specs.declared.token.Found.{Found}
use Rattle.edif_values.specs.declared.keyword.Keyword.{Keyword}
use Rattle.edif_values.specs.declared.keyword.Keyword.TheVariants as k
use Rattle.edif_values.specs.Keywords.{same_keyword}
use Rattle.edif_keywords.specs.Reasons as say
use Rattle.edif_keywords.specs.Reasons.{trailing}
use Rattle.edif_values.specs.declared.name.NameDef.{NameDef}
use Rattle.edif_status.specs.Grammar.{note, status}
use Rattle.edif_library.specs.Grammar.{cell, cell_item, cell_ref, cell_rest, cell_type, contents_item, contents_rest, design, design_item, design_rest, file, file_body, file_item, file_rest, interface, interface_item, interface_rest, kind_words, library, library_item, library_ref, library_rest, netlist, notes_rest, number_definition, scale, scales_rest, technology, unit, view, view_item, view_rest}
use Rattle.edif_texts_go_on.proofs.AlikeParts.{as_item_alike, SameToken, Alike, one_alike, either_alike, word_alike, closing_alike, choice_alike, begin_alike, items_alike, level_alike, header_alike}
use Rattle.edif_texts_go_on.proofs.AlikeNames.{name_alike, scaled_alike, property_alike, note_alike, status_alike}
use Rattle.edif_texts_go_on.proofs.AlikeNets.{designator_alike, port_alike, instance_alike, net_alike}

interface_item_alike : (q : Keyword) → Alike (interface_item q)
interface_item_alike q =
    either_alike (same_keyword q k.Port) _ _ (as_item_alike port port_alike)
    (either_alike (same_keyword q k.Property) _ _ (as_item_alike property property_alike)
    (either_alike (same_keyword q k.Designator) _ _ (as_item_alike designator designator_alike) (as_item_alike (note q) (note_alike q))))

interface_rest_alike : Alike (interface_rest [])
unfolding interface_rest
interface_rest_alike = items_alike _ interface_item [] interface_item_alike

interface_alike : Alike interface
unfolding interface
interface_alike table = (begin_alike _ table, λ _. interface_rest_alike table)

contents_item_alike : (q : Keyword) → Alike (contents_item q)
contents_item_alike q =
    either_alike (same_keyword q k.Instance) _ _ (as_item_alike instance instance_alike)
    (either_alike (same_keyword q k.Net) _ _ (as_item_alike net net_alike) (as_item_alike (note q) (note_alike q)))

contents_rest_alike : Alike (contents_rest [])
unfolding contents_rest
contents_rest_alike = items_alike _ contents_item [] contents_item_alike

view_item_alike : (q : Keyword) → Alike (view_item q)
view_item_alike q =
    either_alike (same_keyword q k.Contents) _ _ (as_item_alike (contents_rest []) contents_rest_alike)
    (either_alike (same_keyword q k.Property) _ _ (as_item_alike property property_alike)
    (either_alike (same_keyword q k.Status) _ _ (as_item_alike status status_alike) (as_item_alike (note q) (note_alike q))))

view_rest_alike : Alike (view_rest [])
unfolding view_rest
view_rest_alike = items_alike _ view_item [] view_item_alike

netlist_alike : Alike netlist
unfolding netlist
netlist_alike table = (begin_alike _ table, λ _. (one_alike (λ _ t. say.view_type_of t) table, λ _. closing_alike table))

view_alike : Alike view
unfolding view
view_alike table = (name_alike table, λ _. (netlist_alike table, λ _. (interface_alike table, λ _. (view_rest_alike table, λ _. tt))))

cell_type_alike : Alike cell_type
unfolding cell_type
cell_type_alike table = (begin_alike _ table, λ _. (choice_alike kind_words table, λ _. (closing_alike table, λ _. tt)))

cell_item_alike : (q : Keyword) → Alike (cell_item q)
cell_item_alike q =
    either_alike (same_keyword q k.View) _ _ (as_item_alike view view_alike)
    (either_alike (same_keyword q k.Property) _ _ (as_item_alike property property_alike)
    (either_alike (same_keyword q k.Status) _ _ (as_item_alike status status_alike) (as_item_alike (note q) (note_alike q))))

cell_rest_alike : Alike (cell_rest [])
unfolding cell_rest
cell_rest_alike = items_alike _ cell_item [] cell_item_alike

cell_alike : Alike cell
unfolding cell
cell_alike table = (name_alike table, λ _. (cell_type_alike table, λ _. (cell_rest_alike table, λ _. tt)))

unit_alike : Alike unit
unfolding unit
unit_alike table = (begin_alike _ table, λ _. (word_alike table, λ _. (closing_alike table, λ _. tt)))

scale_alike : Alike scale
unfolding scale
scale_alike table = (scaled_alike table, λ _. (scaled_alike table, λ _. (unit_alike table, λ _. (closing_alike table, λ _. tt))))

scales_rest_alike : Alike (scales_rest [])
unfolding scales_rest
scales_rest_alike = items_alike _ (λ _. scale) [] (λ _. scale_alike)

notes_rest_alike : Alike (notes_rest [])
unfolding notes_rest
notes_rest_alike = items_alike _ note [] note_alike

number_definition_alike : Alike number_definition
unfolding number_definition
number_definition_alike table = (begin_alike _ table, λ _. scales_rest_alike table)

technology_alike : Alike technology
unfolding technology
technology_alike table = (begin_alike _ table, λ _. (number_definition_alike table, λ _. (notes_rest_alike table, λ _. tt)))

library_item_alike : (q : Keyword) → Alike (library_item q)
library_item_alike q =
    either_alike (same_keyword q k.Cell) _ _ (as_item_alike cell cell_alike)
    (either_alike (same_keyword q k.Status) _ _ (as_item_alike status status_alike) (as_item_alike (note q) (note_alike q)))

library_rest_alike : Alike (library_rest [])
unfolding library_rest
library_rest_alike = items_alike _ library_item [] library_item_alike

library_alike : (e : Bool) → Alike (library e)
unfolding library
library_alike e table = (name_alike table, λ _. (level_alike table, λ _. (technology_alike table, λ _. (library_rest_alike table, λ _. tt))))

library_ref_alike : Alike library_ref
unfolding library_ref
library_ref_alike table = (begin_alike _ table, λ _. (word_alike table, λ _. (closing_alike table, λ _. tt)))

cell_ref_alike : Alike cell_ref
unfolding cell_ref
cell_ref_alike table = (begin_alike _ table, λ _. (word_alike table, λ _. (library_ref_alike table, λ _. (closing_alike table, λ _. tt))))

design_item_alike : (q : Keyword) → Alike (design_item q)
design_item_alike q =
    either_alike (same_keyword q k.Property) _ _ (as_item_alike property property_alike)
    (either_alike (same_keyword q k.Status) _ _ (as_item_alike status status_alike) (as_item_alike (note q) (note_alike q)))

design_rest_alike : Alike (design_rest [])
unfolding design_rest
design_rest_alike = items_alike _ design_item [] design_item_alike

design_alike : Alike design
unfolding design
design_alike table = (name_alike table, λ _. (cell_ref_alike table, λ _. (design_rest_alike table, λ _. tt)))

file_item_alike : (q : Keyword) → Alike (file_item q)
file_item_alike q =
    either_alike (same_keyword q k.Library) _ _ (as_item_alike (library false) (library_alike false))
    (either_alike (same_keyword q k.External) _ _ (as_item_alike (library true) (library_alike true))
    (either_alike (same_keyword q k.Design) _ _ (as_item_alike design design_alike)
    (either_alike (same_keyword q k.Status) _ _ (as_item_alike status status_alike) (as_item_alike (note q) (note_alike q)))))

file_rest_alike : Alike (file_rest [])
unfolding file_rest
file_rest_alike = items_alike _ file_item [] file_item_alike

file_body_alike : (n : NameDef) → Alike (file_body n)
unfolding file_body
file_body_alike n table = (file_rest_alike table, λ _. tt)

file_alike : Alike (file [])
unfolding file
file_alike table = (begin_alike _ table, λ _. (name_alike table, λ n. (header_alike [] table, λ aliases. file_body_alike n aliases)))

end_alike : (x y : Terminal Found Place) → SameToken x y → end_of trailing x ≡ end_of trailing y
end_alike (proper x) (proper y) e = refl
end_alike (proper x) (end q) e = absurd e
end_alike (end p) (proper y) e = absurd e
end_alike (end p) (end q) e = refl

-- a whole text, with the end of the input
pub text_alike : Respects SameToken [] (whole trailing (file []))
unfolding whole the_end
text_alike = (file_alike [], λ v. (end_alike, λ _. tt))
