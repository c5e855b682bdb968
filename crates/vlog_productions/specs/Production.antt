-- The extended BNF over the tokens of Verilog, as data, and which tokens are a text of a
-- production, for which value. No token is looked at ahead here. The texts of expressions and
-- constants are those of their own extended BNF.
use Rattle.std.specs.Prelude.{◌≡◌, ◌⊎◌, ℕ, ℤ, true, false, List, [], ◌∷◌, ◌++◌, Option, Some, None}
use Rattle.grammar.specs.Texts.{Spells}
use Rattle.vlog_tokens.specs.declared.token.VToken.TheVariants as token
use Rattle.vlog_values.specs.declared.expression.Const.{Const}
use Rattle.vlog_values.specs.declared.expression.Expr.{Expr}
use Rattle.vlog_exprs.specs.Language.{Vlog}
use Rattle.vlog_exprs.specs.Reasons.{is_bound}
use Rattle.vlog_exprs.specs.Expressions.{Tokens, IsToken, ListText, ExprText, ConstText}
use Rattle.vlog_modules.specs.Productions.{ManyText}

infixr 20 ◌·◌
infixr 10 ◌∣◌
-- a production, whose texts spell values of a type
pub data Production : Type 0 → Type 1 where
  -- tokens of which is said what they spell
  told : {A : Type 0} → (Tokens → A → Type 0) → Production A
  -- no token, for this value
  nothing : {A : Type 0} → A → Production A
  -- p q
  both : {A B : Type 0} → Production A → Production B → Production (A × B)
  -- p | q
  either : {A : Type 0} → Production A → Production A → Production A
  -- [p]
  optional : {A : Type 0} → Production A → Production (Option A)
  -- {p}
  many : {A : Type 0} → Production A → Production (List A)
  -- p {"," p}
  list : {A : Type 0} → Production A → Production (List A)
  -- p, for what the function makes of its value
  meaning : {A B : Type 0} → (A → B) → Production A → Production B

-- p q
abbrev pub ◌·◌ : {A B : Type 0} → Production A → Production B → Production (A × B)
p · q = both p q

-- p | q
abbrev pub ◌∣◌ : {A : Type 0} → Production A → Production A → Production A
p ∣ q = either p q

-- ---- its texts

-- a text of P, and behind it one of Q
abbrev pub BothText : {A B : Type 0} → (Tokens → A → Type 0) → (Tokens → B → Type 0) → Tokens
    → A × B → Type 0
BothText P Q ts v = (a : Tokens) × (b : Tokens) × (ts ≡ a ++ b) × P a v.0 × Q b v.1

-- no token, or a text of P
pub data OptionalText {A : Type 0} (P : Tokens → A → Type 0) (ts : Tokens)
    (v : Option A) : Type 0 where
  left_out : ts ≡ [] → v ≡ None → OptionalText P ts v
  there : (u : A) → P ts u → v ≡ Some u → OptionalText P ts v

-- a text of P for a value of which the function makes this one
abbrev pub MeaningText : {A B : Type 0} → (A → B) → (Tokens → A → Type 0) → Tokens → B → Type 0
MeaningText {A = A} f P ts v = (u : A) × P ts u × (v ≡ f u)

-- The tokens are a text of the production for the value.
abbrev pub Texts : {A : Type 0} → Production A → Tokens → A → Type 0
Texts (told P) ts v = P ts v
Texts (nothing a) ts v = (ts ≡ []) × (v ≡ a)
Texts (both p q) ts v = BothText (Texts p) (Texts q) ts v
Texts (either p q) ts v = Texts p ts v ⊎ Texts q ts v
Texts (optional p) ts v = OptionalText (Texts p) ts v
Texts (many p) ts v = ManyText (Texts p) ts v
Texts (list p) ts v = ListText (Texts p) ts v
Texts (meaning f p) ts v = MeaningText f (Texts p) ts v

-- ---- tokens

-- NAME
abbrev pub name : Production (List ℕ)
name = told (λ ts n. IsToken (token.Name n) ts)

-- a NUM that a bound may have
abbrev pub bound_number : Production ℤ
bound_number = told (λ ts n. IsToken (token.Number n) ts × (is_bound n ≡ true))

-- a punctuation mark
abbrev pub mark : ℕ → Production (Unit {0})
mark m = told (λ ts _. IsToken (token.Punct m) ts)

-- a keyword
abbrev pub keyword : List ℕ → Production (Unit {0})
keyword w = told (λ ts _. IsToken (token.Keyword w) ts)

-- the word and the value stand side by side
abbrev pub IsRow : {A : Type 0} → List (List ℕ × A) → List ℕ → A → Type 0
IsRow [] w v = ⊥
IsRow (row ∷ rows) w v = (w ≡ row.0) × (v ≡ row.1) ⊎ IsRow rows w v

-- one of some keywords, for the value that stands beside it
abbrev pub one_of : {A : Type 0} → List (List ℕ × A) → Production A
one_of rows = told (λ ts v. (w : List ℕ) × IsToken (token.Keyword w) ts × IsRow rows w v)

-- ---- expressions and constants

-- expr
abbrev pub expr : Production Expr
expr = told (λ ts e. ExprText false 64 ts e)

-- lval
abbrev pub lval : Production Expr
lval = told (λ ts e. ExprText true 64 ts e)

-- const
abbrev pub constant : Production Const
constant = told (λ ts c. ConstText ts c)

-- ---- the law

-- The tokens that spell a value as the part that is read are exactly the texts that the production
-- has for it.
pub record HasTextsOf {A : Type 0} (p : Vlog A) (q : Production A) : Type 0 where
  pub is_text : (ts : Tokens) (v : A) → Spells tt p ts v → Texts q ts v
  pub is_spelled : (ts : Tokens) (v : A) → Texts q ts v → Spells tt p ts v
