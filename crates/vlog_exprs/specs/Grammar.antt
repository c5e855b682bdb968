-- Constants, attributes and expressions, and what all parts of the grammar are made of (IEEE 1364-2005, A.2.5, A.8 and A.9.1): a definition for
-- each production, with the production before it. NAME, NUM, REAL, BASED and STR are tokens.
use Rattle.std.specs.Prelude.{ℕ, zero, suc, Bool, false, List, [], ◌∷◌, ◌++◌, Option, Some, None, ℤ, pos, neg_ℤ}
use Rattle.grammar.specs.Part.{gives, sequence, ◌>>=◌}
use Rattle.readers.specs.Parts.{one, if_next, while_next}
use Rattle.nl_base.specs.Ranges.{Bounds}
use Rattle.vlog_values.specs.declared.expression.Const.{Const}
use Rattle.vlog_values.specs.declared.expression.Const.TheVariants as consts
use Rattle.vlog_values.specs.declared.expression.Attr.{Attr}
use Rattle.vlog_values.specs.declared.expression.Select.{Select}
use Rattle.vlog_values.specs.declared.expression.Select.TheVariants as selects
use Rattle.vlog_values.specs.declared.expression.Expr.{Expr}
use Rattle.vlog_values.specs.declared.expression.Expr.TheVariants as exprs
use Rattle.vlog_values.specs.declared.literal.Literal.{Literal}
use Rattle.vlog_exprs.specs.declared.start.ExprStart.{ExprStart}
use Rattle.vlog_exprs.specs.declared.start.ExprStart.TheVariants as starts
use Rattle.vlog_exprs.specs.declared.start.ConstStart.{ConstStart}
use Rattle.vlog_exprs.specs.declared.start.ConstStart.TheVariants as const_starts
use Rattle.vlog_exprs.specs.Language.{Vlog}
use Rattle.vlog_exprs.specs.Reasons as say

-- ---- one token

-- NAME
abbrev pub name : Vlog (List ℕ)
name = one (λ _ x. say.name_of x.token)

-- NUM
abbrev pub number : Vlog ℤ
number = one (λ _ x. say.number_of x.token)

-- a punctuation mark
abbrev pub mark : ℕ → Vlog (Unit {0})
mark due = one (λ _ x. say.mark_of due x.token)

-- a keyword
abbrev pub keyword : List ℕ → Vlog (Unit {0})
keyword due = one (λ _ x. say.keyword_of due x.token)

-- one of some keywords, each for a value
abbrev pub choice : {A : Type 0} → List (List ℕ × A) → Vlog A
choice words = one (λ _ x. say.choice_of words x.token)

-- "*)"
abbrev pub group_end : Vlog (Unit {0})
group_end = one (λ _ x. say.group_end_of x.token)

-- ---- ways to put parts together

-- a punctuation mark and p, or else q
unfoldable pub after : {A : Type 0} → ℕ → Vlog A → Vlog A → Vlog A
after due p q = if_next (λ _ x. say.at_mark due x.token) (λ _. p) q

-- {"," p} close, behind what was read so far
unfoldable pub commas : {A : Type 0} → Vlog A → Vlog (Unit {0}) → List A → Vlog (List A)
commas p close = while_next (λ _ _ x. say.at_mark 44 x.token) (λ so_far _. sequence p (λ a. gives (so_far ++ a ∷ []))) (λ so_far. sequence close (λ _. gives so_far))

-- p {"," p} close
unfoldable pub list : {A : Type 0} → Vlog A → Vlog (Unit {0}) → Vlog (List A)
list p close = sequence p (λ a. commas p close (a ∷ []))

-- ---- bounds, ranges and selects

-- the NUM of a bound
abbrev pub bound_number : Vlog ℤ
bound_number = one (λ _ x. say.bound_of x.token)

-- bound   = ["-"] NUM
unfoldable pub bound : Vlog ℤ
bound = after 45 (sequence bound_number (λ n. gives (neg_ℤ n))) bound_number

-- bound ":" bound "]"
unfoldable pub range_rest : Vlog Bounds
range_rest = do
  left ← bound
  _ ← mark 58
  right ← bound
  _ ← mark 93
  gives (record { left = left; right = right })

-- range   = "[" bound ":" bound "]"
unfoldable pub range : Vlog Bounds
range = sequence (mark 91) (λ _. range_rest)

-- [range]
unfoldable pub maybe_range : Vlog (Option Bounds)
maybe_range = after 91 (sequence range_rest (λ r. gives (Some r))) (gives None)

-- "]" | ":" bound "]", behind the first bound of a select
unfoldable pub select_rest : ℤ → Vlog Select
select_rest left = after 58 (do
  right ← bound
  _ ← mark 93
  gives (selects.Slice left right)) (do
    _ ← mark 93
    gives (selects.One left))

-- ["[" bound "]" | "[" bound ":" bound "]"]
unfoldable pub select : Vlog Select
select = after 91 (sequence bound select_rest) (gives selects.All)

-- ---- numbers and digits

-- [BASED], behind a NUM, which is then a size
unfoldable pub digits : ℤ → Vlog (Option Literal)
digits n = if_next (λ _ x. say.at_digits n x.token) (λ l. gives (Some l)) (gives None)

-- the literal, or the number that no digits follow
abbrev pub expr_of_number : ℤ → Option Literal → Expr
expr_of_number n (Some l) = exprs.Lit l
expr_of_number n None = exprs.LooseNumber n

-- NUM BASED | NUM, behind the NUM
unfoldable pub sized : ℤ → Vlog Expr
sized n = sequence (digits n) (λ l. gives (expr_of_number n l))

-- the same as a constant
abbrev pub const_of_number : ℤ → Option Literal → Const
const_of_number n (Some l) = consts.Lit l
const_of_number n None = consts.Number n

-- the same as a constant
unfoldable pub sized_const : ℤ → Vlog Const
sized_const n = sequence (digits n) (λ l. gives (const_of_number n l))

-- ---- expressions

-- how an expression begins, on the left side of an assignment or not, where so many braces may be opened, one in another
abbrev pub expr_start : Bool → ℕ → Vlog ExprStart
expr_start left room = one (λ _ x. say.expr_start left room x.token)

-- the rest of an expression, of which `inside` reads on behind a brace
-- ref     = NAME ["[" bound "]" | "[" bound ":" bound "]"]
unfoldable pub expr_rest : Vlog Expr → ExprStart → Vlog Expr
expr_rest inside (starts.Name n) = sequence select (λ s. gives (exprs.Ref s n))
expr_rest inside (starts.Number n) = sized n
expr_rest inside (starts.Based b) = gives (exprs.Loose b)
expr_rest inside starts.Brace = inside

-- an expression, of which `inside` reads on behind a brace
unfoldable pub expr_by : Bool → ℕ → Vlog Expr → Vlog Expr
expr_by left room inside = sequence (expr_start left room) (expr_rest inside)

-- {"," expr} "}", behind "{" expr
unfoldable pub cat_rest : Vlog Expr → Expr → Vlog Expr
cat_rest p e = sequence (commas p (mark 125) (e ∷ [])) (λ es. gives (exprs.Cat es))

-- expr {"," expr} "}" "}", behind "{" NUM "{"
unfoldable pub rep_rest : Vlog Expr → ℤ → Vlog Expr
rep_rest p n = do
  es ← list p (mark 125)
  _ ← mark 125
  gives (exprs.Rep n es)

-- expr {"," expr} "}" | NUM "{" expr {"," expr} "}" "}", behind "{" and one more token: p is an expression there
unfoldable pub braced : Vlog Expr → Vlog Expr → ExprStart → Vlog Expr
braced p inside (starts.Number n) = after 123 (rep_rest p n) (sequence (sized n) (cat_rest p))
braced p inside start = sequence (expr_rest inside start) (cat_rest p)

-- the rest of a concatenation or a replication behind its "{", before which so many braces could be opened; where none could, none is read on
unfoldable pub inside : Bool → ℕ → Vlog Expr
inside left zero = gives (exprs.LooseNumber (pos 0))
inside left (suc room) = sequence (expr_start left room) (braced (expr_by left room (inside left room)) (inside left room))

-- expr    = ref | NUM BASED | NUM | BASED | "{" expr {"," expr} "}" | "{" NUM "{" expr {"," expr} "}" "}"
-- lval    = ref | "{" lval {"," lval} "}"
unfoldable pub expr : Bool → ℕ → Vlog Expr
expr left room = expr_by left room (inside left room)

-- [expr]
unfoldable pub maybe_expr : Vlog (Option Expr)
maybe_expr = if_next (λ _ x. say.at_expr x.token) (λ start. sequence (expr_rest (inside false 64) start) (λ e. gives (Some e))) (gives None)

-- ---- constants and attributes

-- how a constant begins
abbrev pub const_start : Vlog ConstStart
const_start = one (λ _ x. say.const_start x.token)

-- NUM | REAL, behind a sign
abbrev pub signed : Bool → Vlog Const
signed negative = one (λ _ x. say.signed_of negative x.token)

-- the rest of a constant
unfoldable pub const_rest : ConstStart → Vlog Const
const_rest (const_starts.Whole c) = gives c
const_rest (const_starts.Sign negative) = signed negative
const_rest (const_starts.Number n) = sized_const n

-- const   = STR | ["+" | "-"] NUM | ["+" | "-"] REAL | NUM BASED | BASED
unfoldable pub constant : Vlog Const
constant = sequence const_start const_rest

-- ["=" const], behind a name; a value that is left out is the number 1
unfoldable pub attr_value : Vlog Const
attr_value = after 61 constant (gives (consts.Number (pos 1)))

-- NAME ["=" const]
unfoldable pub attr : Vlog Attr
attr = do
  n ← name
  v ← attr_value
  gives (record { name = n; value = v })

-- attr {"," attr} "*)", behind attributes and a "(*"
unfoldable pub group : List Attr → Vlog (List Attr)
group so_far = sequence attr (λ a. commas attr group_end (so_far ++ a ∷ []))

-- {"(*" attr {"," attr} "*)"}, behind attributes
unfoldable pub groups : List Attr → Vlog (List Attr)
groups = while_next (λ _ _ x. say.at_group x.token) (λ so_far _. group so_far) (λ so_far. gives so_far)

-- attrs   = {"(*" NAME ["=" const] {"," NAME ["=" const]} "*)"}
abbrev pub attrs : Vlog (List Attr)
attrs = groups []
