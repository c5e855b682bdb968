-- Loops over forms and over strings, and a form or another part.
use Rattle.std.proofs.Common.{◌≡◌, ◌∙◌, sym, refl, ℕ, true, false, List, [], ◌∷◌, ◌++◌, Option, Ok, Err}
use Rattle.grammar.specs.Part.{gives, sequence, takes, leaves}
use Rattle.grammar.specs.Reading.{read, and_then, Found as Answer}
use Rattle.grammar.specs.Whole.{Terminal}
use Rattle.nl_base.specs.declared.place.Place.{Place}
use Rattle.nl_base.specs.declared.fault.Reason.{Reason}
use Rattle.nl_base.specs.declared.fault.ReadError.{ReadError}
use Rattle.edif_tokens.specs.declared.token.Found.{Found}
use Rattle.edif_values.specs.declared.token.Token.{Token}
use Rattle.edif_values.specs.declared.token.Token.TheVariants.{LeftParen, RightParen, Word, Number, Str}
use Rattle.readers.specs.Parts.{any}
use Rattle.nl_bytes.specs.Tokens.{Ahead}
use Rattle.readers.specs.Readers.{reading, looking, IsToken, IsNext, IsCause}
use Rattle.readers.proofs.Choices.{reads_alike, read_grouped, Fits, Misses, while_token, while_no_token, while_next_is, while_next_is_no, cause_while, due_while, due_if, due_one, due_then, if_token, if_no_token}
use Rattle.std.proofs.lemmas.List.{map_push}
use Rattle.readers.proofs.Reading.{sequences}
use Rattle.edif_values.specs.declared.keyword.Keyword.{Keyword}
use Rattle.edif_keywords.specs.Aliases.{Alias}
use Rattle.edif_keywords.specs.Language.{edif, Edif}
use Rattle.edif_keywords.specs.Reasons.{at_opening, at_string, opening_of, closing_of, string_of, opens, has_string, is_opening, is_string}
use Rattle.edif_keywords.specs.Grammar.{opening, closing, string, keyword, begin, forms, item, items, strings, form_or}

fits_by : (t : Token) → is_opening t ≡ true → (c : Unit {0}) × (at_opening t ≡ takes c) × (opening_of t ≡ Ok c)
fits_by LeftParen h = (tt, refl, refl)
fits_by RightParen h = absurd cc
fits_by (Word w) h = absurd cc
fits_by (Number n) h = absurd cc
fits_by (Str s) h = absurd cc

misses_by : (t : Token) → is_opening t ≡ false → at_opening t ≡ leaves
misses_by LeftParen h = absurd cc
misses_by RightParen h = refl
misses_by (Word w) h = refl
misses_by (Number n) h = refl
misses_by (Str s) h = refl

pub opening_fits : Fits opens (λ x. at_opening x.token) (λ x. opening_of x.token)
unfolding opens
opening_fits x h = fits_by x.token h

pub opening_misses : Misses opens (λ x. at_opening x.token)
unfolding opens
opening_misses x h = misses_by x.token h

string_fits_by : (t : Token) → is_string t ≡ true → (c : List ℕ) × (at_string t ≡ takes c) × (string_of t ≡ Ok c)
string_fits_by LeftParen h = absurd cc
string_fits_by RightParen h = absurd cc
string_fits_by (Word w) h = absurd cc
string_fits_by (Number n) h = absurd cc
string_fits_by (Str s) h = (s, refl, refl)

string_misses_by : (t : Token) → is_string t ≡ false → at_string t ≡ leaves
string_misses_by LeftParen h = refl
string_misses_by RightParen h = refl
string_misses_by (Word w) h = refl
string_misses_by (Number n) h = refl
string_misses_by (Str s) h = absurd cc

string_fits : Fits has_string (λ x. at_string x.token) (λ x. string_of x.token)
unfolding has_string
string_fits x h = string_fits_by x.token h

string_misses : Misses has_string (λ x. at_string x.token)
unfolding has_string
string_misses x h = string_misses_by x.token h

-- ---- loops over forms

module _ {S A : Type 0} (round : S → Edif S) (rest : S → Edif A) (t : S) (k : List Alias) (s : Option (Ahead Found)) where
  pub forms_more : IsToken opens true s → reading edif (forms round rest t) k s ≡ reading edif (sequence opening (λ _. sequence (round t) (λ u. forms round rest u))) k s
  unfolding forms
  forms_more is = while_token edif opens (λ _ _ x. at_opening x.token) (λ s _. round s) rest t k s (λ _ x. opening_of x.token) opening_fits is

  pub forms_end : IsToken opens false s → reading edif (forms round rest t) k s ≡ reading edif (rest t) k s
  unfolding forms
  forms_end is = while_no_token edif opens (λ _ _ x. at_opening x.token) (λ s _. round s) rest t k s opening_misses is

  pub forms_fault : (e : ReadError) → IsCause e (reading edif any k s) → IsCause e (reading edif (rest t) k s) → IsCause e (reading edif (forms round rest t) k s)
  unfolding forms
  forms_fault e h n = due_while e edif (λ _ _ x. at_opening x.token) (λ s _. round s) rest t k s h n

closing_fault : {A : Type 0} (e : ReadError) (q : Edif A) (k : List Alias) (s : Option (Ahead Found)) → IsCause e (reading edif any k s) → IsCause e (reading edif (sequence closing (λ _. q)) k s)
closing_fault e q k s h = due_then e edif closing (λ _. q) k s (due_one e edif (λ _ x. closing_of x.token) k s h)

-- ---- items

module _ {I : Type 0} (allowed : List I → List Keyword) (rest : Keyword → Edif I) (so_far : List I) (k : List Alias) (s : Option (Ahead Found)) where
  grouped : (ts : List (Terminal Found Place))
      → read k (sequence opening (λ _. sequence (sequence (sequence (keyword (allowed so_far)) rest) (λ i. gives (so_far ++ i ∷ []))) (λ u. items allowed rest u))) ts
      ≡ read k (sequence (sequence (begin (allowed so_far)) rest) (λ i. items allowed rest (so_far ++ i ∷ []))) ts
  unfolding begin
  grouped ts = by (read k opening ts)
    where
      pushed : (r : Answer (Terminal Found Place) Reason I)
          → and_then {A = List I × List (Terminal Found Place)} {B = List I × List (Terminal Found Place)} (and_then {A = I × List (Terminal Found Place)} r (λ z. Ok (so_far ++ z.0 ∷ [], z.1))) (λ u. read k (items allowed rest u.0) u.1)
          ≡ and_then {A = I × List (Terminal Found Place)} r (λ z. read k (items allowed rest (so_far ++ z.0 ∷ [])) z.1)
      pushed (Ok x) = refl
      pushed (Err e) = refl

      by : (r : Answer (Terminal Found Place) Reason (Unit {0}))
          → and_then {B = List I × List (Terminal Found Place)} r (λ x. and_then {A = List I × List (Terminal Found Place)} {B = List I × List (Terminal Found Place)}
          (and_then {A = I × List (Terminal Found Place)} (and_then (read k (keyword (allowed so_far)) x.1) (λ y. read k (rest y.0) y.1)) (λ z. Ok (so_far ++ z.0 ∷ [], z.1))) (λ u. read k (items allowed rest u.0) u.1))
          ≡ and_then {A = I × List (Terminal Found Place)} (and_then (and_then r (λ x. read k (keyword (allowed so_far)) x.1)) (λ y. read k (rest y.0) y.1)) (λ z. read k (items allowed rest (so_far ++ z.0 ∷ [])) z.1)
      by (Ok x) = pushed (and_then (read k (keyword (allowed so_far)) x.1) (λ y. read k (rest y.0) y.1))
      by (Err e) = refl

  pub items_more : IsToken opens true s → reading edif (items allowed rest so_far) k s ≡ reading edif (sequence (item (allowed so_far) rest) (λ i. items allowed rest (so_far ++ i ∷ []))) k s
  unfolding items
  items_more is = forms_more _ _ so_far k s is ∙ reads_alike edif _ _ k s grouped

  pub items_end : IsToken opens false s → reading edif (items allowed rest so_far) k s ≡ reading edif (sequence closing (λ _. gives so_far)) k s
  unfolding items
  items_end is = forms_end _ _ so_far k s is

  pub items_fault : (e : ReadError) → IsCause e (reading edif any k s) → IsCause e (reading edif (items allowed rest so_far) k s)
  unfolding items
  items_fault e h = forms_fault _ _ so_far k s e h (closing_fault e (gives so_far) k s h)

-- ---- strings

module _ (so_far : List (List ℕ)) (k : List Alias) (s : Option (Ahead Found)) where
  pub strings_more : IsNext has_string true s → reading edif (strings so_far) k s ≡ reading edif (sequence string (λ t. strings (so_far ++ t ∷ []))) k s
  unfolding strings
  strings_more is =
      while_next_is edif has_string (λ _ _ x. at_string x.token) (λ so_far s. gives (so_far ++ s ∷ [])) (λ so_far. sequence closing (λ _. gives so_far)) so_far k s (λ _ x. string_of x.token) string_fits is
      ∙ reads_alike edif _ _ k s (λ ts. refl)

  pub strings_end : IsNext has_string false s → reading edif (strings so_far) k s ≡ reading edif (sequence closing (λ _. gives so_far)) k s
  unfolding strings
  strings_end is = while_next_is_no edif has_string (λ _ _ x. at_string x.token) (λ so_far s. gives (so_far ++ s ∷ [])) (λ so_far. sequence closing (λ _. gives so_far)) so_far k s string_misses is

  pub strings_fault : (e : ReadError) → IsCause e (looking s) → IsCause e (reading edif (strings so_far) k s)
  unfolding strings
  strings_fault e h = cause_while e edif (λ _ _ x. at_string x.token) (λ so_far s. gives (so_far ++ s ∷ [])) (λ so_far. sequence closing (λ _. gives so_far)) so_far k s h

-- ---- a form or another part

module _ {A : Type 0} (allowed : List Keyword) (rest : Keyword → Edif A) (other : Edif A) (k : List Alias) (s : Option (Ahead Found)) where
  pub form_reads : IsToken opens true s → reading edif (form_or allowed rest other) k s ≡ reading edif (sequence (begin allowed) rest) k s
  unfolding form_or begin
  form_reads is =
      if_token edif opens (λ _ x. at_opening x.token) (λ _. sequence (keyword allowed) rest) other (λ _ x. opening_of x.token) k s opening_fits is
      ∙ sym (reads_alike edif (sequence (sequence opening (λ _. keyword allowed)) rest) _ k s (read_grouped opening (λ _. keyword allowed) rest k))

  pub other_reads : IsToken opens false s → reading edif (form_or allowed rest other) k s ≡ reading edif other k s
  unfolding form_or
  other_reads is = if_no_token edif opens (λ _ x. at_opening x.token) (λ _. sequence (keyword allowed) rest) other k s opening_misses is

  pub form_or_fault : (e : ReadError) → IsCause e (reading edif any k s) → IsCause e (reading edif other k s) → IsCause e (reading edif (form_or allowed rest other) k s)
  unfolding form_or
  form_or_fault e h n = due_if e edif (λ _ x. at_opening x.token) (λ _. sequence (keyword allowed) rest) other k s h n

-- for a loop over the strings of a form
pub ruleset string_loops = (strings_more, strings_end, strings_fault, map_push, sequences)

-- for a loop over the forms in a form
pub ruleset item_loops = (items_more, items_end, items_fault, map_push, sequences)

-- for a form or another part
pub ruleset form_or_other = (form_reads, other_reads, form_or_fault, due_one, due_then, sequences)
