-- Expressions and constants in the words of the extended BNF (IEEE 1364-2005, A.8.1, A.8.3 and A.8.5): each constructor is one way in which
-- tokens spell one. Here no token is looked at ahead, and what several ways have in common stands in each of them.
use Rattle.std.specs.Prelude.{◌≡◌, ◌⊎◌, ℕ, zero, suc, ℤ, neg_ℤ, nat_abs, Bool, true, false, List, [], ◌∷◌, ◌++◌}
use Rattle.grammar.specs.Whole.{Terminal, proper}
use Rattle.nl_base.specs.declared.number.Scaled.{Scaled}
use Rattle.nl_base.specs.declared.place.Place.{Place}
use Rattle.vlog_tokens.specs.declared.token.VFound.{VFound}
use Rattle.vlog_tokens.specs.declared.token.VToken.{VToken}
use Rattle.vlog_tokens.specs.declared.token.VToken.TheVariants as token
use Rattle.vlog_values.specs.declared.expression.Const.{Const}
use Rattle.vlog_values.specs.declared.expression.Const.TheVariants as consts
use Rattle.vlog_values.specs.declared.expression.Select.{Select}
use Rattle.vlog_values.specs.declared.expression.Select.TheVariants as selects
use Rattle.vlog_values.specs.declared.expression.Expr.{Expr}
use Rattle.vlog_values.specs.declared.expression.Expr.TheVariants as exprs
use Rattle.vlog_values.specs.declared.literal.Based.{Based}
use Rattle.vlog_exprs.specs.Reasons.{is_bound, is_size}

-- tokens of a text, and its end
abbrev pub Tokens : Type 0
Tokens = List (Terminal VFound Place)

-- the tokens are this one
abbrev pub IsToken : VToken → Tokens → Type 0
IsToken t ts = (x : VFound) × (ts ≡ proper x ∷ []) × (x.token ≡ t)

-- bound   = ["-"] NUM
pub data BoundText (ts : Tokens) (v : ℤ) : Type 0 where
  plain : (n : ℤ) → IsToken (token.Number n) ts → is_bound n ≡ true → v ≡ n → BoundText ts v
  minus : (n : ℤ) (a b : Tokens) → ts ≡ a ++ b → IsToken (token.Punct 45) a → IsToken (token.Number n) b → is_bound n ≡ true → v ≡ neg_ℤ n → BoundText ts v

-- ["[" bound "]" | "[" bound ":" bound "]"]
pub data SelectText (ts : Tokens) (s : Select) : Type 0 where
  all : ts ≡ [] → s ≡ selects.All → SelectText ts s
  one_bit : (n : ℤ) (a b c : Tokens) → ts ≡ a ++ (b ++ c) → IsToken (token.Punct 91) a → BoundText b n → IsToken (token.Punct 93) c → s ≡ selects.One n → SelectText ts s
  slice : (m n : ℤ) (a b c d f : Tokens) → ts ≡ a ++ (b ++ (c ++ (d ++ f))) → IsToken (token.Punct 91) a → BoundText b m → IsToken (token.Punct 58) c → BoundText d n → IsToken (token.Punct 93) f → s ≡ selects.Slice m n → SelectText ts s

-- p {"," p}
pub data ListText {A : Type 0} (P : Tokens → A → Type 0) : Tokens → List A → Type 0 where
  last : {ts : Tokens} {vs : List A} (v : A) → P ts v → vs ≡ v ∷ [] → ListText P ts vs
  more : {ts : Tokens} {vs : List A} (v : A) (ws : List A) (a b c : Tokens) → ts ≡ a ++ (b ++ c) → P a v → IsToken (token.Punct 44) b → ListText P c ws → vs ≡ v ∷ ws → ListText P ts vs

-- ref | NUM BASED | NUM | BASED; on the left side of an assignment ref alone
-- ref     = NAME ["[" bound "]" | "[" bound ":" bound "]"]
pub data PlainText (left : Bool) (ts : Tokens) (e : Expr) : Type 0 where
  ref : (n : List ℕ) (s : Select) (a b : Tokens) → ts ≡ a ++ b → IsToken (token.Name n) a → SelectText b s → e ≡ exprs.Ref s n → PlainText left ts e
  literal : (n : ℤ) (d : Based) (a b : Tokens) → left ≡ false → ts ≡ a ++ b → IsToken (token.Number n) a → IsToken (token.Based d) b → is_size n ≡ true → e ≡ exprs.Lit (record { size = nat_abs n; based = d }) → PlainText left ts e
  number : (n : ℤ) → left ≡ false → IsToken (token.Number n) ts → e ≡ exprs.LooseNumber n → PlainText left ts e
  loose : (d : Based) → left ≡ false → IsToken (token.Based d) ts → e ≡ exprs.Loose d → PlainText left ts e

-- "{" expr {"," expr} "}" | "{" NUM "{" expr {"," expr} "}" "}", where P are the expressions in the braces; on the left side the first alone
pub data BracedText (left : Bool) (P : Tokens → Expr → Type 0) (ts : Tokens) (e : Expr) : Type 0 where
  cat : (es : List Expr) (a b c : Tokens) → ts ≡ a ++ (b ++ c) → IsToken (token.Punct 123) a → ListText P b es → IsToken (token.Punct 125) c → e ≡ exprs.Cat es → BracedText left P ts e
  rep : (n : ℤ) (es : List Expr) (a b c d f g : Tokens) → left ≡ false → ts ≡ a ++ (b ++ (c ++ (d ++ (f ++ g)))) → IsToken (token.Punct 123) a → IsToken (token.Number n) b → IsToken (token.Punct 123) c → ListText P d es → IsToken (token.Punct 125) f → IsToken (token.Punct 125) g → e ≡ exprs.Rep n es → BracedText left P ts e

-- expr    = ref | NUM BASED | NUM | BASED | "{" expr {"," expr} "}" | "{" NUM "{" expr {"," expr} "}" "}"
-- lval    = ref | "{" lval {"," lval} "}"
-- with at most so many braces of concatenations and replications in one another
unfoldable pub ExprText : Bool → ℕ → Tokens → Expr → Type 0
ExprText left zero ts e = PlainText left ts e
ExprText left (suc room) ts e = PlainText left ts e ⊎ BracedText left (ExprText left room) ts e

-- a number or a real without a sign, and with one
pub data NumberText (ts : Tokens) (c : Const) : Type 0 where
  unsigned : (n : ℤ) → IsToken (token.Number n) ts → c ≡ consts.Number n → NumberText ts c
  unsigned_real : (r : Scaled) → IsToken (token.Real r) ts → c ≡ consts.Real r → NumberText ts c
  plus_number : (n : ℤ) (a b : Tokens) → ts ≡ a ++ b → IsToken (token.Punct 43) a → IsToken (token.Number n) b → c ≡ consts.Number n → NumberText ts c
  plus_real : (r : Scaled) (a b : Tokens) → ts ≡ a ++ b → IsToken (token.Punct 43) a → IsToken (token.Real r) b → c ≡ consts.Real r → NumberText ts c
  minus_number : (n : ℤ) (a b : Tokens) → ts ≡ a ++ b → IsToken (token.Punct 45) a → IsToken (token.Number n) b → c ≡ consts.Number (neg_ℤ n) → NumberText ts c
  minus_real : (r : Scaled) (a b : Tokens) → ts ≡ a ++ b → IsToken (token.Punct 45) a → IsToken (token.Real r) b → c ≡ consts.Real (record { mantissa = neg_ℤ r.mantissa; exponent = r.exponent }) → NumberText ts c

-- const   = STR | ["+" | "-"] NUM | ["+" | "-"] REAL | NUM BASED | BASED
pub data ConstText (ts : Tokens) (c : Const) : Type 0 where
  string : (s : List ℕ) → IsToken (token.Str s) ts → c ≡ consts.Str s → ConstText ts c
  of_number : NumberText ts c → ConstText ts c
  sized_literal : (n : ℤ) (d : Based) (a b : Tokens) → ts ≡ a ++ b → IsToken (token.Number n) a → IsToken (token.Based d) b → is_size n ≡ true → c ≡ consts.Lit (record { size = nat_abs n; based = d }) → ConstText ts c
  loose_literal : (d : Based) → IsToken (token.Based d) ts → c ≡ consts.Loose d → ConstText ts c
