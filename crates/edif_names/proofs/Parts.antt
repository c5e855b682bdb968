-- What the parts of names and properties read as by cases: where a part begins with a token that is due, and which part a keyword leads to.
use Rattle.std.proofs.Common.{◌≡◌, refl, true, false, List, Option}
use Rattle.nl_base.specs.declared.fault.ReadError.{ReadError}
use Rattle.edif_tokens.specs.declared.token.Found.{Found}
use Rattle.readers.specs.Parts.{any}
use Rattle.nl_bytes.specs.Tokens.{Ahead}
use Rattle.readers.specs.Readers.{reading, IsCause}
use Rattle.readers.proofs.Choices.{due_one, due_then}
use Rattle.readers.proofs.Reading.{sequences}
use Rattle.edif_values.specs.declared.keyword.Keyword.{Keyword}
use Rattle.edif_values.specs.declared.keyword.Keyword.TheVariants as k
use Rattle.edif_values.specs.Keywords.{same_keyword}
use Rattle.edif_keywords.specs.Aliases.{Alias}
use Rattle.edif_keywords.specs.Language.{edif}
use Rattle.edif_keywords.specs.Reasons.{word_of, integer_of}
use Rattle.edif_keywords.proofs.Forms.{form_or_other}
use Rattle.readers.specs.Items.{as_item}
use Rattle.edif_values.specs.declared.name.PortName.TheVariants.{Single}
use Rattle.edif_values.specs.declared.property.PropTail.TheVariants as tail
use Rattle.edif_keywords.specs.Grammar.{comment}
use Rattle.edif_names.specs.Grammar.{plain, whole, string_value, integer_value, number_value, boolean_value, value_form, owner, tail_form}

module _ (e : ReadError) (table : List Alias) (s : Option (Ahead Found)) (h : IsCause e (reading edif any table s)) where
  pub plain_due : IsCause e (reading edif plain table s)
  unfolding plain
  plain_due = due_then e edif _ _ table s (due_one e edif (λ _ x. word_of x.token) table s h)

  pub plain_port_due : IsCause e (reading edif (as_item Single plain) table s)
  plain_port_due = due_then e edif _ _ table s plain_due

  pub whole_due : IsCause e (reading edif whole table s)
  unfolding whole
  whole_due = due_then e edif _ _ table s (due_one e edif (λ _ x. integer_of x.token) table s h)

module _ (q : Keyword) where
  pub string_value_due : same_keyword q k.String ≡ true → value_form q ≡ string_value
  unfolding value_form
  string_value_due h = rw h refl

  pub integer_value_due : same_keyword q k.String ≡ false → same_keyword q k.Integer ≡ true → value_form q ≡ integer_value
  unfolding value_form
  integer_value_due h i = rw (h, i) refl

  pub number_value_due : same_keyword q k.String ≡ false → same_keyword q k.Integer ≡ false → same_keyword q k.Number ≡ true → value_form q ≡ number_value
  unfolding value_form
  number_value_due h i j = rw (h, i, j) refl

  pub boolean_value_due : same_keyword q k.String ≡ false → same_keyword q k.Integer ≡ false → same_keyword q k.Number ≡ false → value_form q ≡ boolean_value
  unfolding value_form
  boolean_value_due h i j = rw (h, i, j) refl

  pub owner_due : same_keyword q k.Owner ≡ true → tail_form q ≡ owner
  unfolding tail_form
  owner_due h = rw h refl

  pub remark_due : same_keyword q k.Owner ≡ false → tail_form q ≡ as_item tail.Comment comment
  unfolding tail_form
  remark_due h = rw h refl

-- for a name, or a scaled number, that may be a form
pub ruleset form_or_token = (plain_due, plain_port_due, whole_due, form_or_other)

-- for the rest of a form by its keyword
pub ruleset by_keyword = (string_value_due, integer_value_due, number_value_due, boolean_value_due, owner_due, remark_due, sequences)
