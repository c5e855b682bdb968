-- What is read of an instance that is written.
use Rattle.std.proofs.Common.{lit≤, ◌≡◌, ℕ, ◌+◌, List, [], ◌∷◌, ◌++◌, length-append, map, length, refl, sym, ap, ◌∙◌, subst}
use Rattle.std.specs.List.{AllByRecursion, filter_map}
use Rattle.std.proofs.lemmas.List.{length-map}
use Rattle.edif_values.specs.Values.{IsWord, IsProperty, IsInstanceItem}
use Rattle.edif_values.specs.declared.property.Property.{Property}
use Rattle.edif_values.specs.declared.instance.Instance.{Instance}
use Rattle.edif_values.specs.declared.instance.InstanceItem.TheVariants as instance_items
use Rattle.edif_written.specs.Naming.{name_for, value_of}
use Rattle.edif_naming.proofs.NamingLaws.{original_name_for}
use Rattle.edif_design.specs.Design.{instance_property, property_value}
use Rattle.edif_written.specs.Written.{netlist, work}
use Rattle.edif_plans.specs.Summaries.{summary_with, instance_summary, instance_ident}
use Rattle.edif_plans.specs.NetNames.{HasNoSpareText}
use Rattle.edif_parts.specs.Instances.{instance_for}

props_read : (ps : List Property) → filter_map instance_property (map instance_items.Property ps) ≡ map property_value ps
props_read [] = refl
props_read (p ∷ ps) = ap (λ l. property_value p ∷ l) (props_read ps)

pub ident_read : (ident name cell : List ℕ) (properties : List Property) (made : Instance) → made ≡ instance_for ident name cell properties → instance_ident made ≡ ident
ident_read ident name cell properties made is = ap instance_ident is

pub summary_read : (ident name cell : List ℕ) (properties : List Property) (made : Instance) → made ≡ instance_for ident name cell properties → instance_summary made ≡ summary_with name cell (map value_of properties)
summary_read ident name cell properties made is = ap instance_summary is ∙ (λ j. summary_with (original_name_for ident name j) cell (props_read properties j))

-- its name has no spare text
pub no_spare_text : (ident name cell : List ℕ) (properties : List Property) (made : Instance) → made ≡ instance_for ident name cell properties → HasNoSpareText made.name
no_spare_text ident name cell properties made is =
    let named : made.name ≡ name_for ident name = ap (λ (instance : Instance). instance.name) is in
    subst HasNoSpareText (sym named) (ap (name_for ident) (sym (original_name_for ident name)))

pub items_sound : (ps : List Property) → AllByRecursion IsProperty ps → AllByRecursion IsInstanceItem (map instance_items.Property ps)
items_sound [] all = tt
items_sound (p ∷ ps) all = (all.0, items_sound ps all.1)

pub work_is_word : IsWord work
work_is_word = (refl, lit≤ tt)

pub netlist_is_word : IsWord netlist
netlist_is_word = (refl, lit≤ tt)

pub same_length : {A B C : Type 0} (f : A → C) (g : B → C) (xs : List A) (ys : List B) → map f xs ≡ map g ys → length xs ≡ length ys
same_length f g xs ys e = sym (length-map xs f) ∙ (ap length e ∙ length-map ys g)

pub longer : {A : Type 0} (made new : List A) (one : A) → new ≡ made ++ one ∷ [] → length new ≡ length made + 1
longer made new one is = ap length is ∙ length-append made (one ∷ [])
