-- From each place in a name, a scaled number or a property some tokens lead to its end, and none of its texts goes on to another.
use Rattle.std.proofs.Common.{◌≡◌, refl, ℕ, Bool, true, false, List, [], ◌∷◌, None, inl, inr}
use Rattle.grammar.specs.Part.{gives, sequence, leaves}
use Rattle.grammar.specs.Clear.{First, Empty}
use Rattle.grammar.specs.Whole.{proper}
use Rattle.edif_tokens.specs.declared.token.Found.{Found}
use Rattle.readers.proofs.Items.{live_as_item, closed_as_item, live_one_of, closed_one_of}
use Rattle.readers.proofs.Shapes.{live_if, closed_if, first_one, not_empty, shut_gives, shut_one, shut_then, shut_if}
use Rattle.edif_values.specs.declared.keyword.Keyword.{Keyword}
use Rattle.edif_values.specs.declared.keyword.Keyword.TheVariants as k
use Rattle.edif_values.specs.Keywords.{has, same_keyword}
use Rattle.edif_keywords.specs.Aliases.{Alias}
use Rattle.edif_keywords.specs.Language.{Edif}
use Rattle.edif_keywords.specs.Reasons as say
use Rattle.edif_keywords.specs.Grammar.{word, string, integer, keyword, form_or, comment}
use Rattle.edif_keywords.proofs.Live.{Lives, Closes, live_word, live_string, live_integer, live_closing, live_keyword, live_begin, closed_keyword, closed_closing, closed_begin, word_leaves, integer_leaves, live_items, closed_items, live_comment, closed_comment}
use Rattle.edif_values.specs.declared.name.NameDef.{NameDef}
use Rattle.edif_values.specs.declared.name.PortName.{PortName}
use Rattle.edif_values.specs.declared.property.PropTail.{PropTail}
use Rattle.readers.specs.Items.{as_item}
use Rattle.edif_values.specs.declared.name.PortName.TheVariants.{Single}
use Rattle.edif_names.specs.Grammar.{renamed, plain, name, array, port_form, port_name, exponential, whole, scaled, string_value, integer_value, number_value, boolean_value, value_form, value, owner, tail_form, tail_item, tails, property}

pub closed_word : Closes word
closed_word table = shut_one table (λ _ x. say.word_of x.token)

pub closed_string : Closes string
closed_string table = shut_one table (λ _ x. say.string_of x.token)

pub closed_integer : Closes integer
closed_integer table = shut_one table (λ _ x. say.integer_of x.token)

-- ---- names

live_renamed : Lives renamed
unfolding renamed
live_renamed table = (live_word table, λ _. (live_string table, λ _. (live_closing table, λ _. tt)))

closed_renamed : Closes renamed
unfolding renamed
closed_renamed table = shut_then (closed_word table) (λ _. shut_then (closed_string table) (λ _. shut_then (closed_closing table) (λ _. shut_gives table _)))

live_plain : Lives plain
unfolding plain
live_plain table = (live_word table, λ _. tt)

closed_plain : Closes plain
unfolding plain
closed_plain table = shut_then (closed_word table) (λ _. shut_gives table _)

pub live_name : Lives name
unfolding name form_or has
live_name table = live_if (λ _ x. say.at_opening x.token) (λ _. sequence (keyword (k.Rename ∷ [])) (λ _. renamed)) plain table (λ _. (live_keyword k.Rename (k.Rename ∷ []) refl table, λ _. live_renamed table)) (live_plain table)

pub closed_name : Closes name
unfolding name form_or plain
closed_name table =
    shut_if table (λ _ x. say.at_opening x.token) (λ _. sequence (keyword (k.Rename ∷ [])) (λ _. renamed)) (λ _ x. say.word_of x.token) _
    (λ _. shut_then (closed_keyword (k.Rename ∷ []) table) (λ _. closed_renamed table)) (λ w. shut_gives table _) (λ x w h. word_leaves x.token w h)

live_array : Lives array
unfolding array
live_array table = (live_name table, λ _. (live_integer table, λ _. (live_closing table, λ _. tt)))

closed_array : Closes array
unfolding array
closed_array table = shut_then (closed_name table) (λ _. shut_then (closed_integer table) (λ _. shut_then (closed_closing table) (λ _. shut_gives table _)))

live_port_form : (b : Bool) → Lives (port_form b)
live_port_form true table = live_array table
live_port_form false table = (live_renamed table, λ _. tt)

closed_port_form : (b : Bool) → Closes (port_form b)
closed_port_form true table = closed_array table
closed_port_form false table = shut_then (closed_renamed table) (λ _. shut_gives table _)

-- an identifier as a name
abbrev as_name : List ℕ → Edif NameDef
as_name w = gives (record { ident = w; text = None })

-- the name of a port that is no form begins with a word
word_first : (table : List Alias) (x : Found) → First table (as_item Single plain) (proper x) → say.at_opening x.token ≡ leaves
unfolding plain
word_first table x (inl h) = let w = first_one (λ _ y. say.word_of y.token) as_name table x h in word_leaves x.token w.0 w.1
word_first table x (inr h) = absurd (not_empty (λ _ y. say.word_of y.token) as_name table h.0 h.1)

port_not_empty : (table : List Alias) (v : PortName) → Empty table (as_item Single plain) v → ⊥
unfolding plain
port_not_empty table v h = not_empty (λ _ y. say.word_of y.token) as_name table h.0 h.1

pub live_port_name : Lives port_name
unfolding port_name form_or has
live_port_name table =
    live_if (λ _ x. say.at_opening x.token) (λ _. sequence (keyword (k.Rename ∷ k.Array ∷ [])) (λ q. port_form (same_keyword q k.Array))) (as_item Single plain) table
    (λ _. (live_keyword k.Rename (k.Rename ∷ k.Array ∷ []) refl table, λ q. live_port_form (same_keyword q k.Array) table)) ((live_as_item plain live_plain) table)

pub closed_port_name : Closes port_name
unfolding port_name form_or
closed_port_name table = record {
  closed = closed_if (λ _ x. say.at_opening x.token) (λ _. sequence (keyword (k.Rename ∷ k.Array ∷ [])) (λ q. port_form (same_keyword q k.Array))) (as_item Single plain) table
      (λ _. (shut_then (closed_keyword (k.Rename ∷ k.Array ∷ []) table) (λ q. closed_port_form (same_keyword q k.Array) table)).closed) ((closed_as_item closed_plain) table).closed (word_first table) (port_not_empty table);
}

-- ---- values

live_exponential : Lives exponential
unfolding exponential
live_exponential table = (live_integer table, λ _. (live_integer table, λ _. (live_closing table, λ _. tt)))

closed_exponential : Closes exponential
unfolding exponential
closed_exponential table = shut_then (closed_integer table) (λ _. shut_then (closed_integer table) (λ _. shut_then (closed_closing table) (λ _. shut_gives table _)))

live_whole : Lives whole
unfolding whole
live_whole table = (live_integer table, λ _. tt)

pub live_scaled : Lives scaled
unfolding scaled form_or has
live_scaled table =
    live_if (λ _ x. say.at_opening x.token) (λ _. sequence (keyword (k.E ∷ [])) (λ _. exponential)) whole table (λ _. (live_keyword k.E (k.E ∷ []) refl table, λ _. live_exponential table)) (live_whole table)

pub closed_scaled : Closes scaled
unfolding scaled form_or whole
closed_scaled table =
    shut_if table (λ _ x. say.at_opening x.token) (λ _. sequence (keyword (k.E ∷ [])) (λ _. exponential)) (λ _ x. say.integer_of x.token) _
    (λ _. shut_then (closed_keyword (k.E ∷ []) table) (λ _. closed_exponential table)) (λ n. shut_gives table _) (λ x n h. integer_leaves x.token n h)

live_string_value : Lives string_value
unfolding string_value
live_string_value table = (live_string table, λ _. (live_closing table, λ _. tt))

closed_string_value : Closes string_value
unfolding string_value
closed_string_value table = shut_then (closed_string table) (λ _. shut_then (closed_closing table) (λ _. shut_gives table _))

live_integer_value : Lives integer_value
unfolding integer_value
live_integer_value table = (live_integer table, λ _. (live_closing table, λ _. tt))

closed_integer_value : Closes integer_value
unfolding integer_value
closed_integer_value table = shut_then (closed_integer table) (λ _. shut_then (closed_closing table) (λ _. shut_gives table _))

live_number_value : Lives number_value
unfolding number_value
live_number_value table = (live_scaled table, λ _. (live_closing table, λ _. tt))

closed_number_value : Closes number_value
unfolding number_value
closed_number_value table = shut_then (closed_scaled table) (λ _. shut_then (closed_closing table) (λ _. shut_gives table _))

live_boolean_value : Lives boolean_value
unfolding boolean_value has
live_boolean_value table = (live_begin k.True (k.True ∷ k.False ∷ []) refl table, λ _. (live_closing table, λ _. (live_closing table, λ _. tt)))

closed_boolean_value : Closes boolean_value
unfolding boolean_value
closed_boolean_value table = shut_then (closed_begin (k.True ∷ k.False ∷ []) table) (λ _. shut_then (closed_closing table) (λ _. shut_then (closed_closing table) (λ _. shut_gives table _)))

live_value_form : (q : Keyword) → Lives (value_form q)
unfolding value_form
live_value_form q =
    live_one_of (same_keyword q k.String) string_value _ live_string_value
    (live_one_of (same_keyword q k.Integer) integer_value _ live_integer_value (live_one_of (same_keyword q k.Number) number_value boolean_value live_number_value live_boolean_value))

closed_value_form : (q : Keyword) → Closes (value_form q)
unfolding value_form
closed_value_form q =
    closed_one_of (same_keyword q k.String) string_value _ closed_string_value
    (closed_one_of (same_keyword q k.Integer) integer_value _ closed_integer_value (closed_one_of (same_keyword q k.Number) number_value boolean_value closed_number_value closed_boolean_value))

pub live_value : Lives value
unfolding value has
live_value table = (live_begin k.String (k.String ∷ k.Integer ∷ k.Number ∷ k.Boolean ∷ []) refl table, λ q. live_value_form q table)

pub closed_value : Closes value
unfolding value
closed_value table = shut_then (closed_begin (k.String ∷ k.Integer ∷ k.Number ∷ k.Boolean ∷ []) table) (λ q. closed_value_form q table)

-- ---- properties

live_owner : Lives owner
unfolding owner
live_owner table = (live_string table, λ _. (live_closing table, λ _. tt))

closed_owner : Closes owner
unfolding owner
closed_owner table = shut_then (closed_string table) (λ _. shut_then (closed_closing table) (λ _. shut_gives table _))

live_tail_form : (q : Keyword) → Lives (tail_form q)
unfolding tail_form
live_tail_form q = live_one_of (same_keyword q k.Owner) owner _ live_owner (live_as_item comment live_comment)

closed_tail_form : (q : Keyword) → Closes (tail_form q)
unfolding tail_form
closed_tail_form q = closed_one_of (same_keyword q k.Owner) owner _ closed_owner (closed_as_item closed_comment)

pub live_tail_item : Lives tail_item
unfolding tail_item has
live_tail_item table = (live_begin k.Owner (k.Owner ∷ k.Comment ∷ []) refl table, λ q. live_tail_form q table)

pub closed_tail_item : Closes tail_item
unfolding tail_item
closed_tail_item table = shut_then (closed_begin (k.Owner ∷ k.Comment ∷ []) table) (λ q. closed_tail_form q table)

pub live_tails : (so_far : List PropTail) → Lives (tails so_far)
unfolding tails has
live_tails so_far = live_items (λ _. k.Owner ∷ k.Comment ∷ []) tail_form so_far (λ _. live_keyword k.Owner (k.Owner ∷ k.Comment ∷ []) refl) live_tail_form

pub closed_tails : (so_far : List PropTail) → Closes (tails so_far)
unfolding tails
closed_tails so_far = closed_items (λ _. k.Owner ∷ k.Comment ∷ []) tail_form so_far closed_tail_form

pub live_property : Lives property
unfolding property
live_property table = (live_name table, λ _. (live_value table, λ _. (live_tails [] table, λ _. tt)))

pub closed_property : Closes property
unfolding property
closed_property table = shut_then (closed_name table) (λ _. shut_then (closed_value table) (λ _. shut_then (closed_tails [] table) (λ _. shut_gives table _)))
