-- What names and properties spell from the tokens of a text are values that can be written.
use Rattle.std.proofs.Common.{Bool, true, false, List, [], ◌∷◌, arith}
use Rattle.edif_values.specs.declared.keyword.Keyword.{Keyword}
use Rattle.edif_values.specs.declared.keyword.Keyword.TheVariants as k
use Rattle.edif_values.specs.Keywords.{same_keyword}
use Rattle.edif_keywords.specs.Grammar.{closing}
use Rattle.edif_keywords.proofs.Kept.{Kept, kept_gives, kept_then, kept_after, kept_cond, kept_word, kept_string, kept_integer, kept_begin, kept_item, kept_form_or, kept_all, kept_comment}
use Rattle.edif_values.specs.declared.property.PropTail.{PropTail}
use Rattle.edif_names.specs.Grammar.{renamed, plain, name, array, port_form, port_name, exponential, whole, scaled, string_value, integer_value, number_value, boolean_value, value_form, value, owner, tail_form, tails, property}
use Rattle.edif_values.specs.Values.{IsNameDef, IsPortName, IsScaled, IsPropValue, IsPropTail, ArePropTails, IsProperty}

-- ---- names

kept_renamed : Kept renamed IsNameDef
unfolding renamed
kept_renamed = kept_then kept_word (λ w ident. kept_then kept_string (λ s text. kept_after closing (λ _. kept_gives _ (record { ident = ident; text = text }))))

kept_plain : Kept plain IsNameDef
unfolding plain
kept_plain = kept_then kept_word (λ w ident. kept_gives _ (record { ident = ident; text = tt }))

pub kept_name : Kept name IsNameDef
unfolding name
kept_name = kept_form_or (k.Rename ∷ []) (λ _ _. kept_renamed) kept_plain

kept_array : Kept array IsPortName
unfolding array
kept_array = kept_then kept_name (λ n is_name. kept_then kept_integer (λ size is_size. kept_after closing (λ _. kept_gives _ (is_name, is_size))))

kept_port_form : (b : Bool) → Kept (port_form b) IsPortName
kept_port_form true = kept_array
kept_port_form false = (kept_then kept_renamed (λ n is_name. kept_gives _ is_name))

pub kept_port_name : Kept port_name IsPortName
unfolding port_name
kept_port_name = kept_form_or (k.Rename ∷ k.Array ∷ []) (λ q _. kept_port_form (same_keyword q k.Array)) (kept_then kept_plain (λ n is_name. kept_gives _ is_name))

-- ---- values

kept_exponential : Kept exponential IsScaled
unfolding exponential
kept_exponential = kept_then kept_integer (λ m mantissa. kept_then kept_integer (λ e exponent. kept_after closing (λ _. kept_gives _ (record { mantissa = mantissa; exponent = exponent }))))

kept_whole : Kept whole IsScaled
unfolding whole
kept_whole = kept_then kept_integer (λ m mantissa. kept_gives _ (record { mantissa = mantissa; exponent = omega arith }))

pub kept_scaled : Kept scaled IsScaled
unfolding scaled
kept_scaled = kept_form_or (k.E ∷ []) (λ _ _. kept_exponential) kept_whole

kept_string_value : Kept string_value IsPropValue
unfolding string_value
kept_string_value = kept_then kept_string (λ s is_string. kept_after closing (λ _. kept_gives _ is_string))

kept_integer_value : Kept integer_value IsPropValue
unfolding integer_value
kept_integer_value = kept_then kept_integer (λ n is_integer. kept_after closing (λ _. kept_gives _ is_integer))

kept_number_value : Kept number_value IsPropValue
unfolding number_value
kept_number_value = kept_then kept_scaled (λ x is_scaled. kept_after closing (λ _. kept_gives _ is_scaled))

kept_boolean_value : Kept boolean_value IsPropValue
unfolding boolean_value
kept_boolean_value = kept_then (kept_begin (k.True ∷ k.False ∷ [])) (λ q _. kept_after closing (λ _. kept_after closing (λ _. kept_gives _ tt)))

kept_value_form : (q : Keyword) → Kept (value_form q) IsPropValue
unfolding value_form
kept_value_form q =
    kept_cond (same_keyword q k.String) string_value _ kept_string_value
    (kept_cond (same_keyword q k.Integer) integer_value _ kept_integer_value (kept_cond (same_keyword q k.Number) number_value boolean_value kept_number_value kept_boolean_value))

pub kept_value : Kept value IsPropValue
unfolding value
kept_value = kept_item (k.String ∷ k.Integer ∷ k.Number ∷ k.Boolean ∷ []) (λ q _. kept_value_form q)

-- ---- properties

kept_owner : Kept owner IsPropTail
unfolding owner
kept_owner = kept_then kept_string (λ s is_string. kept_after closing (λ _. kept_gives _ is_string))

kept_tail_form : (q : Keyword) → Kept (tail_form q) IsPropTail
unfolding tail_form
kept_tail_form q = kept_cond (same_keyword q k.Owner) owner _ kept_owner (kept_then kept_comment (λ texts are_strings. kept_gives _ are_strings))

pub kept_tails : (so_far : List PropTail) → ArePropTails so_far → Kept (tails so_far) ArePropTails
unfolding tails
kept_tails so_far all = kept_all IsPropTail (λ _. k.Owner ∷ k.Comment ∷ []) tail_form (λ _ q _. kept_tail_form q) so_far all

pub kept_property : Kept property IsProperty
unfolding property
kept_property = kept_then kept_name (λ n is_name. kept_then kept_value (λ v is_value. kept_then (kept_tails [] tt) (λ ts are_tails. kept_gives _ (record { name = is_name; value = is_value; tail = are_tails }))))
