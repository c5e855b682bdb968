-- The extended BNF over the tokens of EDIF, as data, and which tokens are a text of a production,
-- for which value. No token is looked at ahead here.
use Rattle.std.specs.Prelude.{◌≡◌, ◌⊎◌, ◌≤◌, ℕ, ℤ, pos, Bool, true, List, [], ◌∷◌, ◌++◌, length, Option, Some, None}
use Rattle.std.specs.List.{filter}
use Rattle.grammar.specs.Texts.{Spells}
use Rattle.grammar.specs.Whole.{Terminal, proper}
use Rattle.nl_base.specs.Case.{same_up_to_case}
use Rattle.nl_base.specs.declared.place.Place.{Place}
use Rattle.edif_tokens.specs.declared.token.Found.{Found}
use Rattle.edif_values.specs.declared.token.Token.{Token}
use Rattle.edif_values.specs.declared.token.Token.TheVariants.{LeftParen, RightParen, Word, Number, Str}
use Rattle.edif_values.specs.declared.keyword.Keyword.{Keyword}
use Rattle.edif_keywords.specs.Aliases.{Alias, means}
use Rattle.edif_keywords.specs.Language.{Edif}
use Rattle.edif_keywords.specs.Grammar.{item}

infixr 20 ◌·◌
infixr 10 ◌∣◌
-- a production, whose texts spell values of a type
pub data Production : Type 0 → Type 1 where
  -- one token that says the value under some aliases
  single : {A : Type 0} → (List Alias → Token → A → Type 0) → Production A
  -- no token, for this value
  nothing : {A : Type 0} → A → Production A
  -- p q
  both : {A B : Type 0} → Production A → Production B → Production (A × B)
  -- p | q
  either : {A : Type 0} → Production A → Production A → Production A
  -- [p]
  optional : {A : Type 0} → Production A → Production (Option A)
  -- {p}
  many : {A : Type 0} → Production A → Production (List A)
  -- ( keyword p )
  form : {A : Type 0} → Keyword → Production A → Production A
  -- ( p )
  list : {A : Type 0} → Production A → Production A
  -- p, for what the function makes of its value
  meaning : {A B : Type 0} → (A → B) → Production A → Production B
  -- p, where its value is such
  such : {A : Type 0} → (A → Type 0) → Production A → Production A
  -- p, which makes aliases, and then q under these too
  aliased : {A : Type 0} → Production (List Alias) → Production A → Production A
  -- {p}, where each makes aliases for those behind it; all that they make
  growing : Production (List Alias) → Production (List Alias)

-- p q
abbrev pub ◌·◌ : {A B : Type 0} → Production A → Production B → Production (A × B)
p · q = both p q

-- p | q
abbrev pub ◌∣◌ : {A : Type 0} → Production A → Production A → Production A
p ∣ q = either p q

-- ---- its texts

-- tokens of a text, and its end
abbrev pub Tokens : Type 0
Tokens = List (Terminal Found Place)

-- the tokens are this one
abbrev pub IsToken : Token → Tokens → Type 0
IsToken t ts = (x : Found) × (ts ≡ proper x ∷ []) × (x.token ≡ t)

-- the tokens are one, of which this holds
abbrev pub OneText : {A : Type 0} → (Token → A → Type 0) → Tokens → A → Type 0
OneText P ts v = (x : Found) × (ts ≡ proper x ∷ []) × P x.token v

-- a text of P, and behind it one of Q
abbrev pub BothText : {A B : Type 0} → (Tokens → A → Type 0) → (Tokens → B → Type 0) → Tokens
    → A × B → Type 0
BothText P Q ts v = (a : Tokens) × (b : Tokens) × (ts ≡ a ++ b) × P a v.0 × Q b v.1

-- no token, or a text of P
pub data OptionalText {A : Type 0} (P : Tokens → A → Type 0) (ts : Tokens)
    (v : Option A) : Type 0 where
  left_out : ts ≡ [] → v ≡ None → OptionalText P ts v
  there : (u : A) → P ts u → v ≡ Some u → OptionalText P ts v

-- texts of P one behind the other
pub data ManyText {A : Type 0} (P : Tokens → A → Type 0) : Tokens → List A → Type 0 where
  no_more : {ts : Tokens} {vs : List A} → ts ≡ [] → vs ≡ [] → ManyText P ts vs
  one_more : {ts : Tokens} {vs : List A} (v : A) (ws : List A) (a b : Tokens) → ts ≡ a ++ b
      → P a v → ManyText P b ws → vs ≡ v ∷ ws → ManyText P ts vs

-- the tokens are a word that means the keyword
abbrev pub IsKeyword : List Alias → Keyword → Tokens → Type 0
IsKeyword aliases q ts = (w : List ℕ) × IsToken (Word w) ts × (means aliases w ≡ Some q)

-- `(`, a text of P and `)`
pub record ListText {A : Type 0} (P : Tokens → A → Type 0) (ts : Tokens) (v : A) : Type 0 where
  pub before : Tokens
  pub inside : Tokens
  pub behind : Tokens
  pub is : ts ≡ before ++ (inside ++ behind)
  pub opens : IsToken LeftParen before
  pub text : P inside v
  pub closes : IsToken RightParen behind

-- a word that means the keyword, and behind it a text of P
pub record KeyedText {A : Type 0} (aliases : List Alias) (q : Keyword) (P : Tokens → A → Type 0)
    (ts : Tokens) (v : A) : Type 0 where
  pub word : Tokens
  pub rest : Tokens
  pub is : ts ≡ word ++ rest
  pub key : IsKeyword aliases q word
  pub text : P rest v

-- a text of P for a value of which the function makes this one
abbrev pub MeaningText : {A B : Type 0} → (A → B) → (Tokens → A → Type 0) → Tokens → B → Type 0
MeaningText {A = A} f P ts v = (u : A) × P ts u × (v ≡ f u)

-- a text of P under the aliases, and behind it one of Q under these and those that it makes
abbrev pub AliasedText : {A : Type 0} → List Alias → (Tokens → List Alias → Type 0)
    → (List Alias → Tokens → A → Type 0) → Tokens → A → Type 0
AliasedText aliases P Q ts v =
    (made : List Alias) × (a : Tokens) × (b : Tokens) × (ts ≡ a ++ b) × P a made
    × Q (aliases ++ made) b v

-- texts of P one behind the other, each under the aliases and those that the texts before it make
pub data GrowingText (P : List Alias → Tokens → List Alias → Type 0) : List Alias → Tokens
    → List Alias → Type 0 where
  grown : {aliases : List Alias} {ts : Tokens} {made : List Alias} → ts ≡ [] → made ≡ []
      → GrowingText P aliases ts made
  grows : {aliases : List Alias} {ts : Tokens} {made : List Alias} (first later : List Alias)
      (a b : Tokens) → ts ≡ a ++ b → P aliases a first → GrowingText P (aliases ++ first) b later
      → made ≡ first ++ later → GrowingText P aliases ts made

-- The tokens are a text of the production for the value, under the aliases in force before it.
abbrev pub Texts : {A : Type 0} → List Alias → Production A → Tokens → A → Type 0
Texts aliases (single says) ts v = OneText (says aliases) ts v
Texts aliases (nothing a) ts v = (ts ≡ []) × (v ≡ a)
Texts aliases (both p q) ts v = BothText (Texts aliases p) (Texts aliases q) ts v
Texts aliases (either p q) ts v = Texts aliases p ts v ⊎ Texts aliases q ts v
Texts aliases (optional p) ts v = OptionalText (Texts aliases p) ts v
Texts aliases (many p) ts v = ManyText (Texts aliases p) ts v
Texts aliases (form q p) ts v = ListText (KeyedText aliases q (Texts aliases p)) ts v
Texts aliases (list p) ts v = ListText (Texts aliases p) ts v
Texts aliases (meaning f p) ts v = MeaningText f (Texts aliases p) ts v
Texts aliases (such good p) ts v = Texts aliases p ts v × good v
Texts aliases (aliased p q) ts v =
    AliasedText aliases (Texts aliases p) (λ table. Texts table q) ts v
Texts aliases (growing p) ts v = GrowingText (λ table. Texts table p) aliases ts v

-- ---- one token

-- IDENT
abbrev pub ident : Production (List ℕ)
ident = single (λ _ t w. t ≡ Word w)

-- INT
abbrev pub int : Production ℤ
int = single (λ _ t n. t ≡ Number n)

-- STR
abbrev pub str : Production (List ℕ)
str = single (λ _ t s. t ≡ Str s)

-- this INT
abbrev pub number : ℕ → Production (Unit {0})
number n = single (λ _ t _. t ≡ Number (pos n))

-- a word in capitals, which is no keyword and takes no alias, for a value
abbrev pub capitals : {A : Type 0} → List ℕ → A → Production A
capitals spelling a =
    single (λ _ t v. (w : List ℕ) × (t ≡ Word w) × (same_up_to_case w spelling ≡ true) × (v ≡ a))

-- IDENT that means no keyword yet
abbrev pub new_ident : Production (List ℕ)
new_ident = single (λ aliases t w. (t ≡ Word w) × (means aliases w ≡ None))

-- IDENT that means this keyword
abbrev pub known_ident : Production Keyword
known_ident = single (λ aliases t q. (w : List ℕ) × (t ≡ Word w) × (means aliases w ≡ Some q))

-- ---- what stands once

-- at most one item is such
abbrev pub AtMostOne : {A : Type 0} → (A → Bool) → List A → Type 0
AtMostOne test is = length (filter test is) ≤ 1

-- ---- the law

-- The tokens that spell a value as the part that is read, under whatever aliases, are exactly the
-- texts that the production has for it.
pub record HasTextsOf {A : Type 0} (p : Edif A) (q : Production A) : Type 0 where
  pub is_text : (aliases : List Alias) (ts : Tokens) (v : A) → Spells aliases p ts v
      → Texts aliases q ts v
  pub is_spelled : (aliases : List Alias) (ts : Tokens) (v : A) → Texts aliases q ts v
      → Spells aliases p ts v

-- what is read of a form: `(`, a word that means the keyword, and what is read on behind it up to
-- the `)` of the form
abbrev pub form_of : {A : Type 0} → Keyword → Edif A → Edif A
form_of q rest = item (q ∷ []) (λ _. rest)
