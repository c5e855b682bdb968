-- Ported: live by proper tokens.
use Rattle.std.proofs.Common.{refl, Bool, true, false, List, [], ◌∷◌}
use Rattle.grammar.specs.Part.{sequence}
use Rattle.edif_faults.proofs.Base.{live_if}
use Rattle.edif_values.specs.declared.keyword.Keyword.{Keyword}
use Rattle.edif_values.specs.declared.keyword.Keyword.TheVariants as k
use Rattle.edif_values.specs.Keywords.{has, same_keyword}
use Rattle.edif_keywords.specs.Reasons as say
use Rattle.edif_keywords.specs.Grammar.{keyword, form_or, comment}
use Rattle.edif_faults.proofs.Base.{Lives, live_as_item, live_one_of, live_word, live_string, live_integer, live_closing, live_keyword, live_begin, live_items, live_comment}
use Rattle.edif_values.specs.declared.property.PropTail.{PropTail}
use Rattle.readers.specs.Items.{as_item}
use Rattle.edif_values.specs.declared.name.PortName.TheVariants.{Single}
use Rattle.edif_names.specs.Grammar.{renamed, plain, name, array, port_form, port_name, exponential, whole, scaled, string_value, integer_value, number_value, boolean_value, value_form, value, owner, tail_form, tail_item, tails, property}

live_renamed : Lives renamed
unfolding renamed
live_renamed table = (live_word table, λ _. (live_string table, λ _. (live_closing table, λ _. tt)))

live_plain : Lives plain
unfolding plain
live_plain table = (live_word table, λ _. tt)

pub live_name : Lives name
unfolding name form_or has
live_name table = live_if (λ _ x. say.at_opening x.token) (λ _. sequence (keyword (k.Rename ∷ [])) (λ _. renamed)) plain table (λ _. (live_keyword k.Rename (k.Rename ∷ []) refl table, λ _. live_renamed table)) (live_plain table)

live_array : Lives array
unfolding array
live_array table = (live_name table, λ _. (live_integer table, λ _. (live_closing table, λ _. tt)))

live_port_form : (b : Bool) → Lives (port_form b)
live_port_form true table = live_array table
live_port_form false table = (live_renamed table, λ _. tt)

pub live_port_name : Lives port_name
unfolding port_name form_or has
live_port_name table =
    live_if (λ _ x. say.at_opening x.token) (λ _. sequence (keyword (k.Rename ∷ k.Array ∷ [])) (λ q. port_form (same_keyword q k.Array))) (as_item Single plain) table
    (λ _. (live_keyword k.Rename (k.Rename ∷ k.Array ∷ []) refl table, λ q. live_port_form (same_keyword q k.Array) table)) ((live_as_item plain live_plain) table)

live_exponential : Lives exponential
unfolding exponential
live_exponential table = (live_integer table, λ _. (live_integer table, λ _. (live_closing table, λ _. tt)))

live_whole : Lives whole
unfolding whole
live_whole table = (live_integer table, λ _. tt)

pub live_scaled : Lives scaled
unfolding scaled form_or has
live_scaled table =
    live_if (λ _ x. say.at_opening x.token) (λ _. sequence (keyword (k.E ∷ [])) (λ _. exponential)) whole table (λ _. (live_keyword k.E (k.E ∷ []) refl table, λ _. live_exponential table)) (live_whole table)

live_string_value : Lives string_value
unfolding string_value
live_string_value table = (live_string table, λ _. (live_closing table, λ _. tt))

live_integer_value : Lives integer_value
unfolding integer_value
live_integer_value table = (live_integer table, λ _. (live_closing table, λ _. tt))

live_number_value : Lives number_value
unfolding number_value
live_number_value table = (live_scaled table, λ _. (live_closing table, λ _. tt))

live_boolean_value : Lives boolean_value
unfolding boolean_value has
live_boolean_value table = (live_begin k.True (k.True ∷ k.False ∷ []) refl table, λ _. (live_closing table, λ _. (live_closing table, λ _. tt)))

live_value_form : (q : Keyword) → Lives (value_form q)
unfolding value_form
live_value_form q =
    live_one_of (same_keyword q k.String) string_value _ live_string_value
    (live_one_of (same_keyword q k.Integer) integer_value _ live_integer_value (live_one_of (same_keyword q k.Number) number_value boolean_value live_number_value live_boolean_value))

pub live_value : Lives value
unfolding value has
live_value table = (live_begin k.String (k.String ∷ k.Integer ∷ k.Number ∷ k.Boolean ∷ []) refl table, λ q. live_value_form q table)

live_owner : Lives owner
unfolding owner
live_owner table = (live_string table, λ _. (live_closing table, λ _. tt))

live_tail_form : (q : Keyword) → Lives (tail_form q)
unfolding tail_form
live_tail_form q = live_one_of (same_keyword q k.Owner) owner _ live_owner (live_as_item comment live_comment)

pub live_tail_item : Lives tail_item
unfolding tail_item has
live_tail_item table = (live_begin k.Owner (k.Owner ∷ k.Comment ∷ []) refl table, λ q. live_tail_form q table)

pub live_tails : (so_far : List PropTail) → Lives (tails so_far)
unfolding tails has
live_tails so_far = live_items (λ _. k.Owner ∷ k.Comment ∷ []) tail_form so_far (λ _. live_keyword k.Owner (k.Owner ∷ k.Comment ∷ []) refl) live_tail_form

pub live_property : Lives property
unfolding property
live_property table = (live_name table, λ _. (live_value table, λ _. (live_tails [] table, λ _. tt)))
