-- What names, values and properties read.
use Rattle.std.proofs.Common.{refl, List, [], ◌∷◌, Some, None}
use Rattle.nl_base.specs.declared.value.PropValue.TheVariants as values
use Rattle.edif_values.specs.declared.keyword.Keyword.TheVariants as k
use Rattle.edif_values.specs.Keywords.{same_keyword}
use Rattle.edif_values.specs.declared.name.PortName.TheVariants.{Single, Array}
use Rattle.edif_values.specs.declared.property.PropTail.{PropTail}
use Rattle.edif_values.specs.declared.property.PropTail.TheVariants as tail
use Rattle.readers.specs.Items.{as_item}
use Rattle.edif_names.specs.Grammar.{renamed, plain, name, array, port_form, port_name, exponential, whole, scaled, string_value, integer_value, number_value, boolean_value, value_form, value, owner, tail_form, tails, property}
use Rattle.edif_reasons.proofs.Forms.{Stays, Ends, Reads, stays_gives, stays_then, ends_then, read_then, ends_as, reads_plainly, stays_word, stays_string, stays_integer, ends_closing, ends_with}
use Rattle.edif_reasons.proofs.Items.{Each, stays_item, ends_item, stays_or, ends_items, ends_comment}

ends_renamed : Ends renamed
unfolding renamed
ends_renamed = ends_then stays_word (λ w. ends_then stays_string (λ s. ends_with (record { ident = w; text = Some s })))

stays_plain : Stays plain
unfolding plain
stays_plain = stays_then stays_word (λ w. stays_gives (record { ident = w; text = None }))

pub stays_name : Stays name
unfolding name
stays_name = stays_or (k.Rename ∷ []) (λ _. renamed) plain (reads_plainly k.Rename refl ends_renamed, tt) stays_plain

ends_array : Ends array
unfolding array
ends_array = ends_then stays_name (λ n. ends_then stays_integer (λ size. ends_with (Array n size)))

pub stays_port_name : Stays port_name
unfolding port_name
stays_port_name =
    stays_or (k.Rename ∷ k.Array ∷ []) (λ q. port_form (same_keyword q k.Array)) (as_item Single plain)
    (reads_plainly k.Rename refl (ends_as Single ends_renamed), (reads_plainly k.Array refl ends_array, tt))
    (stays_then stays_plain (λ n. stays_gives (Single n)))

ends_exponential : Ends exponential
unfolding exponential
ends_exponential = ends_then stays_integer (λ m. ends_then stays_integer (λ e. ends_with (record { mantissa = m; exponent = e })))

stays_whole : Stays whole
unfolding whole
stays_whole = stays_then stays_integer (λ m. stays_gives _)

pub stays_scaled : Stays scaled
unfolding scaled
stays_scaled = stays_or (k.E ∷ []) (λ _. exponential) whole (reads_plainly k.E refl ends_exponential, tt) stays_whole

ends_string_value : Ends string_value
unfolding string_value
ends_string_value = ends_then stays_string (λ s. ends_with (values.Str s))

ends_integer_value : Ends integer_value
unfolding integer_value
ends_integer_value = ends_then stays_integer (λ n. ends_with (values.Int n))

ends_number_value : Ends number_value
unfolding number_value
ends_number_value = ends_then stays_scaled (λ x. ends_with (values.Scaled x))

ends_boolean_value : Ends boolean_value
unfolding boolean_value
ends_boolean_value =
    ends_item (k.True ∷ k.False ∷ []) _ (
      read_then k.True (reads_plainly k.True refl ends_closing) (λ _. ends_with (values.Flag (same_keyword k.True k.True))),
      (read_then k.False (reads_plainly k.False refl ends_closing) (λ _. ends_with (values.Flag (same_keyword k.False k.True))), tt),
    )

each_value : Each (k.String ∷ k.Integer ∷ k.Number ∷ k.Boolean ∷ []) (λ q. Reads q (value_form q))
unfolding value_form
each_value = (
  reads_plainly k.String refl ends_string_value,
  (
    reads_plainly k.Integer refl ends_integer_value,
    (
      reads_plainly k.Number refl ends_number_value,
      (reads_plainly k.Boolean refl ends_boolean_value, tt),
    ),
  ),
)

stays_value : Stays value
unfolding value
stays_value = stays_item (k.String ∷ k.Integer ∷ k.Number ∷ k.Boolean ∷ []) value_form each_value

ends_owner : Ends owner
unfolding owner
ends_owner = ends_then stays_string (λ s. ends_with (tail.Owner s))

each_tail : Each (k.Owner ∷ k.Comment ∷ []) (λ q. Reads q (tail_form q))
unfolding tail_form
each_tail = (reads_plainly k.Owner refl ends_owner, (reads_plainly k.Comment refl (ends_as tail.Comment ends_comment), tt))

ends_tails : (so_far : List PropTail) → Ends (tails so_far)
unfolding tails
ends_tails so_far = ends_items (λ _. k.Owner ∷ k.Comment ∷ []) tail_form (λ _. each_tail) so_far

ends_property : Ends property
unfolding property
ends_property = ends_then stays_name (λ n. ends_then stays_value (λ v. ends_as (λ ts. record { name = n; value = v; tail = ts }) (ends_tails [])))

pub reads_property : Reads k.Property property
reads_property = reads_plainly k.Property refl ends_property
