-- What the parts of a form read, where it has no row of its own: they stay in it, or end with its `)`.
use Rattle.std.proofs.Common.{◌≡◌, refl, sym, subst, ℕ, true, false, List, [], ◌∷◌, ◌++◌, Option, Some, None, Result, Ok, Err}
use Rattle.grammar.specs.Part.{gives, sequence}
use Rattle.nl_base.specs.declared.fault.Reason.{Reason}
use Rattle.nl_base.specs.declared.fault.Reason.TheVariants as reasons
use Rattle.readers.specs.Parts.{one}
use Rattle.edif_values.specs.declared.token.Token.{Token}
use Rattle.edif_values.specs.declared.token.Token.TheVariants.{LeftParen, RightParen, Word, Number, Str}
use Rattle.edif_values.specs.declared.keyword.Keyword.{Keyword}
use Rattle.edif_keywords.specs.Aliases.{Alias}
use Rattle.edif_keywords.specs.Language.{Edif}
use Rattle.edif_keywords.specs.Reasons as say
use Rattle.edif_keywords.specs.Grammar.{word, string, integer, opening, closing, choice}
use Rattle.edif_reasons.specs.Context.{Element, Single, Group, Form, Said, Context, placed, with_element, open_lists, at_keyword, after}
use Rattle.edif_reasons.specs.Rows.{reason_of}
use Rattle.edif_reasons.proofs.Tracking.{Judged, Tracks, tracks_gives, tracks_one, tracks_then, tracks_less}
use Rattle.edif_reasons.proofs.Standing.{form, no_test, plain_tests, IsPlain, plain_by, IsCalm, unexpected, lists_in, begun, calm_in, says_nothing}

-- a form without a row of its own, outside user data
pub record Frame : Type 0 where
  pub said : Said
  pub keyword : Keyword
  pub holder : Form
  pub around : List Form
  pub plain : IsPlain keyword
  pub outside : open_lists (holder ∷ around) ≡ None

-- in the form, behind some elements of it
abbrev pub inside : Frame → List Element → Context
inside fr es = placed fr.said (form fr.keyword es ∷ fr.holder ∷ fr.around)

abbrev pub In : Frame → Context → Type 0
In fr c = (es : List Element) × (c ≡ inside fr es)

-- behind the form
abbrev pub past : Frame → Context
past fr = placed fr.said (with_element fr.holder Group ∷ fr.around)

-- behind the keyword of a form in it
abbrev pub opened : Frame → List Element → Keyword → Context
opened fr es q = placed fr.said (form q [] ∷ form fr.keyword es ∷ fr.holder ∷ fr.around)

pub calm : (fr : Frame) (es : List Element) → IsCalm (inside fr es).forms
calm fr es = calm_in fr.keyword es fr.holder fr.around fr.plain fr.outside

pub begun_in : (fr : Frame) (es : List Element) → at_keyword (inside fr es).forms ≡ false
begun_in fr es = begun fr.keyword es fr.holder fr.around

pub outside_in : (fr : Frame) (es : List Element) → open_lists (form fr.keyword es ∷ fr.holder ∷ fr.around) ≡ None
outside_in fr es = lists_in (form fr.keyword es) (fr.holder ∷ fr.around) fr.plain.user fr.outside

-- a form in the form
abbrev pub child : Frame → List Element → (q : Keyword) → IsPlain q → Frame
child fr es q plain = record {
  said = fr.said;
  keyword = q;
  holder = form fr.keyword es;
  around = fr.holder ∷ fr.around;
  plain = plain;
  outside = outside_in fr es;
}

-- the part stays in the form
abbrev pub Stays : {A : Type 0} → Edif A → Type 0
Stays p = (fr : Frame) (es : List Element) → Tracks fr.said.aliases p (inside fr es) (λ _ d. In fr d)

-- the part ends with the form
abbrev pub Ends : {A : Type 0} → Edif A → Type 0
Ends p = (fr : Frame) (es : List Element) → Tracks fr.said.aliases p (inside fr es) (λ _ d. d ≡ past fr)

-- the part reads a form in the form, behind its keyword
abbrev pub Reads : {A : Type 0} → Keyword → Edif A → Type 0
Reads q p = (fr : Frame) (es : List Element) → Tracks fr.said.aliases p (opened fr es q) (λ _ d. In fr d)

-- the same, and the end of the form around it
abbrev pub ReadsLast : {A : Type 0} → Keyword → Edif A → Type 0
ReadsLast q p = (fr : Frame) (es : List Element) → Tracks fr.said.aliases p (opened fr es q) (λ _ d. d ≡ past fr)

pub from_in : {A : Type 0} (fr : Frame) (q : Edif A) (P : A → Context → Type 0) → ((es : List Element) → Tracks fr.said.aliases q (inside fr es) P)
    → (d : Context) → In fr d → Tracks fr.said.aliases q d P
from_in fr q P h d i = subst (λ z. Tracks fr.said.aliases q z P) (sym i.1) (h i.0)

pub stays_gives : {A : Type 0} (v : A) → Stays (gives v)
stays_gives v fr es = tracks_gives fr.said.aliases v (inside fr es) (λ _ d. In fr d) (es, refl)

module _ {A B : Type 0} {p : Edif A} {q : A → Edif B} where
  pub stays_then : Stays p → ((u : A) → Stays (q u)) → Stays (sequence p q)
  stays_then h l fr es = tracks_then fr.said.aliases p q (inside fr es) (λ _ d. In fr d) (λ _ d. In fr d) (h fr es)
      (λ u d i. from_in fr (q u) (λ _ d. In fr d) (l u fr) d i)

  pub ends_then : Stays p → ((u : A) → Ends (q u)) → Ends (sequence p q)
  ends_then h l fr es = tracks_then fr.said.aliases p q (inside fr es) (λ _ d. In fr d) (λ _ d. d ≡ past fr) (h fr es)
      (λ u d i. from_in fr (q u) (λ _ d. d ≡ past fr) (l u fr) d i)

  -- a form that is read in the form, and what follows it
  pub read_then : (w : Keyword) → Reads w p → ((u : A) → Ends (q u)) → ReadsLast w (sequence p q)
  read_then w h l fr es = tracks_then fr.said.aliases p q (opened fr es w) (λ _ d. In fr d) (λ _ d. d ≡ past fr) (h fr es)
      (λ u d i. from_in fr (q u) (λ _ d. d ≡ past fr) (l u fr) d i)

module _ {A B : Type 0} {p : Edif A} (f : A → B) where
  pub ends_as : Ends p → Ends (sequence p (λ u. gives (f u)))
  ends_as h fr es = tracks_then fr.said.aliases p (λ u. gives (f u)) (inside fr es) (λ _ d. d ≡ past fr) (λ _ d. d ≡ past fr) (h fr es)
      (λ u d e. tracks_gives fr.said.aliases (f u) d (λ _ d. d ≡ past fr) e)

  pub reads_as : (w : Keyword) → Reads w p → Reads w (sequence p (λ u. gives (f u)))
  reads_as w h fr es = tracks_then fr.said.aliases p (λ u. gives (f u)) (opened fr es w) (λ _ d. In fr d) (λ _ d. In fr d) (h fr es)
      (λ u d i. tracks_gives fr.said.aliases (f u) d (λ _ d. In fr d) i)

-- a form behind which one more element stands in the form around it
pub reads_by : {A : Type 0} (q : Keyword) (p : Edif A) → ((fr : Frame) (es : List Element)
    → Tracks fr.said.aliases p (opened fr es q) (λ _ d. d ≡ inside fr (es ++ Group ∷ []))) → Reads q p
reads_by q p h fr es = tracks_less fr.said.aliases p (opened fr es q) (λ _ d. d ≡ inside fr (es ++ Group ∷ [])) (λ _ d. In fr d)
    (λ v d e. (es ++ Group ∷ [], e)) (h fr es)

-- a form without a row of its own that stands in one
pub reads_plainly : {A : Type 0} {p : Edif A} (q : Keyword) → no_test (plain_tests q) ≡ true → Ends p → Reads q p
reads_plainly {p = p} q plain h = reads_by q p (λ fr es. h (child fr es q (plain_by q plain)) [])

-- ---- tokens of a form

-- a token that is an element of a form
abbrev pub IsElement : Token → Type 0
IsElement LeftParen = ⊥
IsElement RightParen = ⊥
IsElement t = Unit {0}

-- elements alone are taken, and each other token is unexpected
abbrev pub TakesElements : {A : Type 0} → Token → Result A Reason → Type 0
TakesElements t (Ok v) = IsElement t
TakesElements t (Err r) = r ≡ reasons.Unexpected

added : (fr : Frame) (es : List Element) (t : Token) → IsElement t → In fr (after (inside fr es) t)
added fr es LeftParen is = absurd is
added fr es RightParen is = absurd is
added fr es (Word w) is = (es ++ Single (Word w) ∷ [], rw (begun_in fr es) refl)
added fr es (Number n) is = (es ++ Single (Number n) ∷ [], refl)
added fr es (Str s) is = (es ++ Single (Str s) ∷ [], refl)

pub unexpected_in : (fr : Frame) (es : List Element) (t : Token) → reasons.Unexpected ≡ reason_of (inside fr es) t
unexpected_in fr es t = unexpected (inside fr es) (calm fr es) (begun_in fr es) t

judged_in : {A : Type 0} (fr : Frame) (es : List Element) (t : Token) (r : Result A Reason) → TakesElements t r
    → Judged (inside fr es) (λ _ d. In fr d) t r
judged_in fr es t (Ok v) h = added fr es t h
judged_in fr es t (Err r) h = rw h (unexpected_in fr es t)

pub stays_one : {A : Type 0} (f : Token → Result A Reason) → ((t : Token) → TakesElements t (f t)) → Stays (one (λ _ x. f x.token))
stays_one f is fr es = tracks_one fr.said.aliases (λ _ t. f t) (inside fr es) (λ _ d. In fr d) (λ t. judged_in fr es t (f t) (is t))

takes_words : (t : Token) → TakesElements t (say.word_of t)
takes_words LeftParen = refl
takes_words RightParen = refl
takes_words (Word w) = tt
takes_words (Number n) = refl
takes_words (Str s) = refl

takes_strings : (t : Token) → TakesElements t (say.string_of t)
takes_strings LeftParen = refl
takes_strings RightParen = refl
takes_strings (Word w) = refl
takes_strings (Number n) = refl
takes_strings (Str s) = tt

takes_integers : (t : Token) → TakesElements t (say.integer_of t)
takes_integers LeftParen = refl
takes_integers RightParen = refl
takes_integers (Word w) = refl
takes_integers (Number n) = tt
takes_integers (Str s) = refl

takes_one : {A : Type 0} (w : List ℕ) (o : Option A) → TakesElements (Word w) (say.choice_by o)
takes_one w None = refl
takes_one w (Some a) = tt

takes_choices : {A : Type 0} (words : List (List ℕ × A)) (t : Token) → TakesElements t (say.choice_of words t)
takes_choices words LeftParen = refl
takes_choices words RightParen = refl
takes_choices words (Word w) = takes_one w (say.meant_by words w)
takes_choices words (Number n) = refl
takes_choices words (Str s) = refl

pub stays_word : Stays word
stays_word = stays_one say.word_of takes_words

pub stays_string : Stays string
stays_string = stays_one say.string_of takes_strings

pub stays_integer : Stays integer
stays_integer = stays_one say.integer_of takes_integers

pub stays_choice : {A : Type 0} (words : List (List ℕ × A)) → Stays (choice words)
stays_choice words = stays_one (say.choice_of words) (takes_choices words)

-- ---- ( and )

module _ (κ : List Alias) (c : Context) (P : Unit {0} → Context → Type 0) (is : IsCalm c.forms) (out : at_keyword c.forms ≡ false) where
  opens : P tt (after c LeftParen) → (t : Token) → Judged c P t (say.opening_of t)
  opens h LeftParen = h
  opens h RightParen = unexpected c is out RightParen
  opens h (Word w) = unexpected c is out (Word w)
  opens h (Number n) = unexpected c is out (Number n)
  opens h (Str s) = unexpected c is out (Str s)

  closes : P tt (after c RightParen) → (t : Token) → Judged c P t (say.closing_of t)
  closes h LeftParen = unexpected c is out LeftParen
  closes h RightParen = h
  closes h (Word w) = unexpected c is out (Word w)
  closes h (Number n) = unexpected c is out (Number n)
  closes h (Str s) = unexpected c is out (Str s)

  -- a `(`, where each other token is unexpected
  pub tracks_opening : P tt (after c LeftParen) → Tracks κ opening c P
  tracks_opening h = tracks_one κ (λ _ t. say.opening_of t) c P (opens h)

  -- a `)`, where each other token is unexpected
  pub tracks_closing : P tt (after c RightParen) → Tracks κ closing c P
  tracks_closing h = tracks_one κ (λ _ t. say.closing_of t) c P (closes h)

pub ends_closing : Ends closing
ends_closing fr es = tracks_closing fr.said.aliases (inside fr es) (λ _ d. d ≡ past fr) (calm fr es) (begun_in fr es)
    (rw (says_nothing fr.said fr.keyword es fr.plain) refl)

-- `)`, and then a value
pub ends_with : {A : Type 0} (v : A) → Ends (sequence closing (λ _. gives v))
ends_with v = ends_as (λ _. v) ends_closing

-- one token in a form, its `)`, and the `)` of the form around it
module _ {A B : Type 0} {p : Edif A} (f : A → B) (q : Keyword) (plain : no_test (plain_tests q) ≡ true) (h : Stays p) where
  abbrev in_it : Frame → List Element → Frame
  in_it fr es = child fr es q (plain_by q plain)

  both_close : (fr : Frame) (es qs : List Element) (u : A)
      → Tracks fr.said.aliases (sequence closing (λ _. sequence closing (λ _. gives (f u)))) (inside (in_it fr es) qs) (λ _ d. d ≡ past fr)
  both_close fr es qs u =
      tracks_then fr.said.aliases closing (λ _. sequence closing (λ _. gives (f u))) (inside (in_it fr es) qs) (λ _ d. d ≡ past (in_it fr es))
      (λ _ d. d ≡ past fr) (ends_closing (in_it fr es) qs)
      (λ v d e. subst (λ z. Tracks fr.said.aliases (sequence closing (λ _. gives (f u))) z (λ _ d. d ≡ past fr)) (sym e)
      (ends_with (f u) fr (es ++ Group ∷ [])))

  pub reads_last : ReadsLast q (sequence p (λ u. sequence closing (λ _. sequence closing (λ _. gives (f u)))))
  reads_last fr es =
      tracks_then fr.said.aliases p (λ u. sequence closing (λ _. sequence closing (λ _. gives (f u)))) (opened fr es q) (λ _ d. In (in_it fr es) d)
      (λ _ d. d ≡ past fr) (h (in_it fr es) [])
      (λ u d i. from_in (in_it fr es) (sequence closing (λ _. sequence closing (λ _. gives (f u)))) (λ _ d. d ≡ past fr)
      (λ qs. both_close fr es qs u) d i)
