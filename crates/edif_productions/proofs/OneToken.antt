-- Which token stands where one is read, and what is read where it stands.
use Rattle.std.proofs.Common.{◌≡◌, ◌∙◌, sym, ap, subst, refl, ◌⊎◌, inl, inr, ℕ, Bool, true, false, ◌||◌, if◌then◌else◌, ℤ, List, [], ◌∷◌, ◌++◌, append-nil, Option, Some, None, Result, Ok, Err}
use Rattle.grammar.specs.Part.{takes}
use Rattle.grammar.specs.Texts.{Spells}
use Rattle.grammar.specs.Whole.{proper, end}
use Rattle.nl_base.specs.declared.fault.Reason.{Reason}
use Rattle.readers.specs.Parts.{one}
use Rattle.edif_values.specs.declared.token.Token.{Token}
use Rattle.edif_values.specs.declared.token.Token.TheVariants.{LeftParen, RightParen, Word, Number, Str}
use Rattle.edif_values.specs.declared.keyword.Keyword.{Keyword}
use Rattle.edif_values.specs.Keywords.{has, same_keyword}
use Rattle.edif_keywords.specs.Aliases.{Alias, means}
use Rattle.edif_keywords.specs.Reasons as say
use Rattle.edif_keywords.specs.Grammar.{word, string, integer, opening, closing, keyword}
use Rattle.edif_values.proofs.Same.{spelled_alike, same_as_itself}
use Rattle.edif_productions.specs.Production.{single, Tokens, IsToken, IsKeyword, Texts, ident, int, str, HasTextsOf}

-- a text and nothing behind it
pub alone : (a b : Tokens) → b ≡ [] → a ++ b ≡ a
alone a b e = ap (λ z. a ++ z) e ∙ append-nil a

-- ---- one token

module _ {A : Type 0} (f : List Alias → Token → Result A Reason) (says : List Alias → Token → A → Type 0) where
  single_text : ((k : List Alias) (t : Token) (v : A) → f k t ≡ Ok v → says k t v) → (k : List Alias) (ts : Tokens) (v : A)
      → Spells k (one (λ k x. f k x.token)) ts v → Texts k (single says) ts v
  unfolding one
  single_text to k ts v (proper x, e, h) = (x, e, to k x.token v h)
  single_text to k ts v (end p, e, h) = absurd cc

  text_single : ((k : List Alias) (t : Token) (v : A) → says k t v → f k t ≡ Ok v) → (k : List Alias) (ts : Tokens) (v : A)
      → Texts k (single says) ts v → Spells k (one (λ k x. f k x.token)) ts v
  unfolding one
  text_single from k ts v (x, e, h) = (proper x, e, from k x.token v h)

  -- what a token says is what the production says of it
  pub one_token : ((k : List Alias) (t : Token) (v : A) → f k t ≡ Ok v → says k t v)
      → ((k : List Alias) (t : Token) (v : A) → says k t v → f k t ≡ Ok v) → HasTextsOf (one (λ k x. f k x.token)) (single says)
  one_token to from = record { is_text = single_text to; is_spelled = text_single from }

pub word_is : (t : Token) (w : List ℕ) → say.word_of t ≡ Ok w → t ≡ Word w
word_is LeftParen w h = absurd cc
word_is RightParen w h = absurd cc
word_is (Word v) w h = let e : v ≡ w = cc in ap Word e
word_is (Number n) w h = absurd cc
word_is (Str s) w h = absurd cc

string_is : (t : Token) (s : List ℕ) → say.string_of t ≡ Ok s → t ≡ Str s
string_is LeftParen s h = absurd cc
string_is RightParen s h = absurd cc
string_is (Word w) s h = absurd cc
string_is (Number n) s h = absurd cc
string_is (Str r) s h = let e : r ≡ s = cc in ap Str e

integer_is : (t : Token) (n : ℤ) → say.integer_of t ≡ Ok n → t ≡ Number n
integer_is LeftParen n h = absurd cc
integer_is RightParen n h = absurd cc
integer_is (Word w) n h = absurd cc
integer_is (Number m) n h = let e : m ≡ n = cc in ap Number e
integer_is (Str s) n h = absurd cc

pub words : HasTextsOf word ident
words = one_token (λ _ t. say.word_of t) (λ _ t w. t ≡ Word w) (λ k t w h. word_is t w h) (λ k t w e. ap say.word_of e)

pub strings : HasTextsOf string str
strings = one_token (λ _ t. say.string_of t) (λ _ t s. t ≡ Str s) (λ k t s h. string_is t s h) (λ k t s e. ap say.string_of e)

pub integers : HasTextsOf integer int
integers = one_token (λ _ t. say.integer_of t) (λ _ t n. t ≡ Number n) (λ k t n h. integer_is t n h) (λ k t n e. ap say.integer_of e)

-- ---- parentheses

opening_is : (t : Token) (u : Unit {0}) → say.opening_of t ≡ Ok u → t ≡ LeftParen
opening_is LeftParen u h = refl
opening_is RightParen u h = absurd cc
opening_is (Word w) u h = absurd cc
opening_is (Number n) u h = absurd cc
opening_is (Str s) u h = absurd cc

closing_is : (t : Token) (u : Unit {0}) → say.closing_of t ≡ Ok u → t ≡ RightParen
closing_is LeftParen u h = absurd cc
closing_is RightParen u h = refl
closing_is (Word w) u h = absurd cc
closing_is (Number n) u h = absurd cc
closing_is (Str s) u h = absurd cc

pub taken_is : (t : Token) (u : Unit {0}) → say.at_opening t ≡ takes u → t ≡ LeftParen
taken_is LeftParen u h = refl
taken_is RightParen u h = absurd cc
taken_is (Word w) u h = absurd cc
taken_is (Number n) u h = absurd cc
taken_is (Str s) u h = absurd cc

pub opening_text : (k : List Alias) (ts : Tokens) (u : Unit {0}) → Spells k opening ts u → IsToken LeftParen ts
unfolding one
opening_text k ts u (proper x, e, h) = (x, e, opening_is x.token u h)
opening_text k ts u (end p, e, h) = absurd cc

pub text_opening : (k : List Alias) (ts : Tokens) → IsToken LeftParen ts → Spells k opening ts tt
unfolding one
text_opening k ts (x, e, h) = (proper x, e, ap say.opening_of h)

pub closing_text : (k : List Alias) (ts : Tokens) (u : Unit {0}) → Spells k closing ts u → IsToken RightParen ts
unfolding one
closing_text k ts u (proper x, e, h) = (x, e, closing_is x.token u h)
closing_text k ts u (end p, e, h) = absurd cc

pub text_closing : (k : List Alias) (ts : Tokens) → IsToken RightParen ts → Spells k closing ts tt
unfolding one
text_closing k ts (x, e, h) = (proper x, e, ap say.closing_of h)

-- ---- keywords

module _ (why : Keyword → List ℕ → Reason) (allowed : List Keyword) (w : List ℕ) where
  is_allowed : (p q : Keyword) (b : Bool) → has allowed p ≡ b → (if b then Ok p else Err (why p w)) ≡ Ok q → (p ≡ q) × (has allowed q ≡ true)
  is_allowed p q true e h = let same : p ≡ q = cc in (same, subst (λ z. has allowed z ≡ true) same e)
  is_allowed p q false e h = absurd cc

  -- a word that is taken for a keyword means it, and it is one of those that may stand there
  pub meant_is : (q : Keyword) (m : Option Keyword) → say.keyword_by why allowed w m ≡ Ok q → (m ≡ Some q) × (has allowed q ≡ true)
  meant_is q None h = absurd cc
  meant_is q (Some p) h = let a = is_allowed p q (has allowed p) refl h in (ap Some a.0, a.1)

-- a token that is taken for a keyword
pub record KeywordIs (allowed : List Keyword) (k : List Alias) (t : Token) (q : Keyword) : Type 0 where
  pub spelling : List ℕ
  pub is : t ≡ Word spelling
  pub meaning : means k spelling ≡ Some q
  pub may : has allowed q ≡ true

keyword_is : (allowed : List Keyword) (k : List Alias) (t : Token) (q : Keyword) → say.keyword_of allowed k t ≡ Ok q → KeywordIs allowed k t q
keyword_is allowed k LeftParen q h = absurd cc
keyword_is allowed k RightParen q h = absurd cc
keyword_is allowed k (Word w) q h =
    let m = meant_is say.elsewhere allowed w q (means k w) h in
    record { spelling = w; is = refl; meaning = m.0; may = m.1 }
keyword_is allowed k (Number n) q h = absurd cc
keyword_is allowed k (Str s) q h = absurd cc

pub keyword_text : (allowed : List Keyword) (k : List Alias) (ts : Tokens) (q : Keyword) → Spells k (keyword allowed) ts q → IsKeyword k q ts
    × (has allowed q ≡ true)
unfolding one
keyword_text allowed k ts q (proper x, e, h) = let is = keyword_is allowed k x.token q h in ((is.spelling, (x, e, is.is), is.meaning), is.may)
keyword_text allowed k ts q (end p, e, h) = absurd cc

pub text_keyword : (allowed : List Keyword) (k : List Alias) (ts : Tokens) (q : Keyword) → IsKeyword k q ts → has allowed q ≡ true
    → Spells k (keyword allowed) ts q
unfolding one
text_keyword allowed k ts q (w, (x, e, is), m) may =
    let says : say.keyword_of allowed k (Word w) ≡ Ok q = rw (m, may) refl in
    (proper x, e, ap (say.keyword_of allowed k) is ∙ says)

-- one of some keywords is the first of them, or one of the others
by_first : (a : Keyword) (allowed : List Keyword) (q : Keyword) (b : Bool) → same_keyword a q ≡ b → (b || has allowed q) ≡ true → (q ≡ a)
    ⊎ (has allowed q ≡ true)
by_first a allowed q true e h = inl (sym (spelled_alike a q e))
by_first a allowed q false e h = inr h

pub has_first_or : (a : Keyword) (allowed : List Keyword) (q : Keyword) → has (a ∷ allowed) q ≡ true → (q ≡ a) ⊎ (has allowed q ≡ true)
unfolding has
has_first_or a allowed q h = by_first a allowed q (same_keyword a q) refl h

pub has_only : (a q : Keyword) → has (a ∷ []) q ≡ true → q ≡ a
unfolding has
has_only a q h = elim (has_first_or a [] q h) [
  | inl e ↦ e
  | inr e ↦ absurd cc
]

pub has_first : (a : Keyword) (allowed : List Keyword) → has (a ∷ allowed) a ≡ true
unfolding has
has_first a allowed = let e : same_keyword a a ≡ true = same_as_itself a a refl in rw e refl

pub has_later : (a : Keyword) (allowed : List Keyword) (q : Keyword) → has allowed q ≡ true → has (a ∷ allowed) q ≡ true
unfolding has
has_later a allowed q h = by (same_keyword a q)
  where
    by : (b : Bool) → (b || has allowed q) ≡ true
    by true = refl
    by false = h
