-- What is written of names and properties spells them.
use Rattle.std.proofs.Common.{ℕ, true, false, zero, suc, List, [], ◌∷◌, Option, Some, None, refl}
use Rattle.std.specs.Prelude.{ℤ, pos, negsuc}
use Rattle.nl_base.specs.declared.number.Scaled.{Scaled}
use Rattle.nl_base.specs.declared.value.PropValue.{PropValue}
use Rattle.nl_base.specs.declared.value.PropValue.TheVariants as prop
use Rattle.edif_values.specs.declared.keyword.Keyword.TheVariants as k
use Rattle.edif_values.specs.Keywords.{has}
use Rattle.edif_values.specs.declared.name.NameDef.{NameDef}
use Rattle.edif_values.specs.declared.name.PortName.{PortName}
use Rattle.edif_values.specs.declared.name.PortName.TheVariants as port_names
use Rattle.edif_values.specs.declared.property.PropTail.{PropTail}
use Rattle.edif_values.specs.declared.property.PropTail.TheVariants as prop_tails
use Rattle.edif_values.specs.declared.property.Property.{Property}
use Rattle.edif_values.specs.Values.{IsPropTail, IsProperty}
use Rattle.edif_names.specs.Grammar.{renamed, plain, name, array, port_name, exponential, whole, scaled, string_value, integer_value, number_value, boolean_value, value_form, value, owner, tail_form, tails, property}
use Rattle.edif_writer.specs.Forms as form
use Rattle.edif_writer.specs.Layout.{more, each}
use Rattle.edif_lexing.specs.Tokens.{tokens, part_tokens}
use Rattle.edif_rereading.proofs.Spelled.{Spelled, then, after, at_last, a_word, a_string, an_integer, a_close, closes, begins, form_here, other_here, IsItem, item, line_items, strings_spelled}

pub name_spelled : (n : NameDef) → Spelled name (tokens (form.name_form n)) n
unfolding name renamed plain has
name_spelled n = go n.ident n.text
  where
    go : (w : List ℕ) (o : Option (List ℕ)) → Spelled name (tokens (form.renamed w o)) (record { ident = w; text = o })
    go w None = other_here _ _ _ (at_last (a_word w))
    go w (Some s) = form_here _ _ _ k.Rename refl (after (a_word w) (after (a_string s) (closes _)))

pub port_name_spelled : (n : PortName) → Spelled port_name (tokens (form.port_name_form n)) n
unfolding port_name array renamed plain has
port_name_spelled (port_names.Array n size) = form_here _ _ _ k.Array refl (then (name_spelled n) (after (an_integer size) (closes _)))
port_name_spelled (port_names.Single n) = go n.ident n.text
  where
    go : (w : List ℕ) (o : Option (List ℕ)) → Spelled port_name (tokens (form.renamed w o)) (port_names.Single (record { ident = w; text = o }))
    go w None = other_here _ _ _ (at_last (at_last (a_word w)))
    go w (Some s) = form_here _ _ _ k.Rename refl (at_last (after (a_word w) (after (a_string s) (closes _))))

pub scaled_spelled : (s : Scaled) → Spelled scaled (tokens (form.scaled_form s)) s
unfolding scaled exponential whole has
scaled_spelled s = go s.mantissa s.exponent
  where
    go : (m e : ℤ) → Spelled scaled (tokens (form.scaled_by m e)) (record { mantissa = m; exponent = e })
    go m (pos zero) = other_here _ _ _ (at_last (an_integer m))
    go m (pos (suc n)) = form_here _ _ _ k.E refl (after (an_integer m) (after (an_integer (pos (suc n))) (closes _)))
    go m (negsuc n) = form_here _ _ _ k.E refl (after (an_integer m) (after (an_integer (negsuc n)) (closes _)))

pub value_spelled : (v : PropValue) → Spelled value (tokens (form.value_form v)) v
unfolding value value_form string_value integer_value number_value boolean_value has
value_spelled (prop.Str s) = begins _ k.String refl (after (a_string s) (closes _))
value_spelled (prop.Int n) = begins _ k.Integer refl (after (an_integer n) (closes _))
value_spelled (prop.Scaled s) = begins _ k.Number refl (then (scaled_spelled s) (closes _))
value_spelled (prop.Flag true) = begins _ k.Boolean refl (begins _ k.True refl (after a_close (closes _)))
value_spelled (prop.Flag false) = begins _ k.Boolean refl (begins _ k.False refl (after a_close (closes _)))

tail_item : (i : PropTail) → IsPropTail i → IsItem (k.Owner ∷ k.Comment ∷ []) tail_form (tokens (form.tail_form i)) i
unfolding tail_form owner has
tail_item (prop_tails.Owner s) g = item k.Owner refl (after (a_string s) (closes _))
tail_item (prop_tails.Comment ts) g = item k.Comment refl (at_last (strings_spelled [] ts))

pub property_spelled : (p : Property) → IsProperty p
    → Spelled property (part_tokens (more (form.name_form p.name) (more (form.value_form p.value) (each form.tail_form p.tail)))) p
unfolding property tails
property_spelled p g = then (name_spelled p.name) (then (value_spelled p.value) (at_last (line_items _ tail_form form.tail_form IsPropTail tail_item p.tail g.tail)))
