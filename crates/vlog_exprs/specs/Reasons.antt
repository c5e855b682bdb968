-- What a token says at its place, or the reason for which it may not stand there: one definition for each kind of place (IEEE 1364-2005, 3).
-- The order is that of the reasons, of which the first that fits is given, but for the last two, which the others fall back on: the end of the
-- input and the faults within a token come before all of these.
use Rattle.std.specs.Prelude.{◌≡◌, ℕ, zero, suc, nat_eq, Bool, true, false, ◌&&◌, if◌then◌else◌, List, [], ◌∷◌, Option, Some, None, option_map, Result, Ok, Err, ℤ, pos, negsuc, neg_ℤ, int_lt, nat_abs, map}
use Rattle.std.specs.Borrow.{Bor}
use Rattle.std.specs.List.{find}
use Rattle.grammar.specs.Part.{Glance, takes, refuses, leaves}
use Rattle.nl_base.specs.Case.{same_bytes}
use Rattle.nl_base.specs.declared.fault.Reason.{Reason}
use Rattle.nl_base.specs.declared.fault.Reason.TheVariants as reasons
use Rattle.vlog_values.specs.declared.expression.Const.{Const}
use Rattle.vlog_values.specs.declared.expression.Const.TheVariants as consts
use Rattle.vlog_values.specs.declared.literal.Literal.{Literal}
use Rattle.vlog_tokens.specs.declared.token.VFound.{VFound}
use Rattle.vlog_tokens.specs.declared.token.VToken.{VToken}
use Rattle.vlog_tokens.specs.declared.token.VToken.TheVariants as token
use Rattle.vlog_exprs.specs.declared.start.ExprStart.{ExprStart}
use Rattle.vlog_exprs.specs.declared.start.ExprStart.TheVariants as starts
use Rattle.vlog_exprs.specs.declared.start.ConstStart.{ConstStart}
use Rattle.vlog_exprs.specs.declared.start.ConstStart.TheVariants as const_starts

-- ---- the last two reasons, which fit where no other does

-- NotInProfile: a keyword, a symbol or a directive, with its spelling; Unexpected: every other token
abbrev pub misplaced : VToken → Reason
misplaced (token.Keyword w) = reasons.NotInProfile w
misplaced (token.Symbol b) = reasons.NotInProfile (b ∷ [])
misplaced (token.Directive w) = reasons.NotInProfile w
misplaced t = reasons.Unexpected

-- the same of a token behind a whole text
abbrev pub trailing : VFound → Reason
trailing x = misplaced x.token

-- ---- NumberRange

-- from 0 to 2^31-1; no number of a text is below 0
abbrev pub is_bound : ℤ → Bool
is_bound n = int_lt (negsuc 0) n && int_lt n (pos 2147483648)

-- NumberRange: the number of a bound above 2^31-1
abbrev pub bound_of : VToken → Result ℤ Reason
bound_of (token.Number n) = if is_bound n then Ok n else Err reasons.NumberRange
bound_of t = Err (misplaced t)

-- from 1 to 65,536
abbrev pub is_size : ℤ → Bool
is_size n = int_lt (pos 0) n && int_lt n (pos 65537)

-- NumberRange: the digits behind a number that is no size; a token that is no digits is left
abbrev pub at_digits : ℤ → VToken → Glance Literal Reason
at_digits n (token.Based b) = if is_size n then takes (record { size = nat_abs n; based = b }) else refuses reasons.NumberRange
at_digits n t = leaves

-- ---- TooDeep

-- TooDeep: a `{` of an expression where so many may still be opened, and that is none
abbrev pub brace_of : ℕ → Result ExprStart Reason
brace_of zero = Err reasons.TooDeep
brace_of (suc room) = Ok starts.Brace

-- how an expression begins; on the left side of an assignment stand names and concatenations alone
abbrev pub expr_start : Bool → ℕ → VToken → Result ExprStart Reason
expr_start left room (token.Name n) = Ok (starts.Name n)
expr_start left room (token.Number n) = if left then Err reasons.Unexpected else Ok (starts.Number n)
expr_start left room (token.Based b) = if left then Err reasons.Unexpected else Ok (starts.Based b)
expr_start left room (token.Punct b) = if nat_eq b 123 then brace_of room else Err reasons.Unexpected
expr_start left room t = Err (misplaced t)

-- ---- other tokens that are due

-- a name
abbrev pub name_of : VToken → Result (List ℕ) Reason
name_of (token.Name n) = Ok n
name_of t = Err (misplaced t)

-- a number
abbrev pub number_of : VToken → Result ℤ Reason
number_of (token.Number n) = Ok n
number_of t = Err (misplaced t)

-- a punctuation mark
abbrev pub mark_of : ℕ → VToken → Result (Unit {0}) Reason
mark_of due (token.Punct b) = if nat_eq b due then Ok tt else Err reasons.Unexpected
mark_of due t = Err (misplaced t)

-- `*)`
abbrev pub group_end_of : VToken → Result (Unit {0}) Reason
group_end_of token.AttrStop = Ok tt
group_end_of t = Err (misplaced t)

-- a keyword
abbrev pub keyword_of : List ℕ → VToken → Result (Unit {0}) Reason
keyword_of due (token.Keyword w) = if same_bytes w due then Ok tt else Err (reasons.NotInProfile w)
keyword_of due t = Err (misplaced t)

-- the value of the first of some keywords that is this one
unfoldable pub meant_by : {A : Type 0} → List (List ℕ × A) → List ℕ → Option A
meant_by words w = option_map (λ row. row.1) (find (λ row. same_bytes w row.0) words)

-- a value that some keyword means
abbrev pub IsMeant : {A : Type 0} → List (List ℕ × A) → A → Type 0
IsMeant words a = (w : List ℕ) × (meant_by words w ≡ Some a)

-- words and values as the program has them
abbrev pub rows : {A : Type 0} → List (Bor (List ℕ) × A) → List (List ℕ × A)
rows = map (λ row. (row.0.now, row.1))

-- a keyword that is none of them may not stand there
abbrev pub choice_by : {A : Type 0} → List ℕ → Option A → Result A Reason
choice_by w None = Err (reasons.NotInProfile w)
choice_by w (Some a) = Ok a

-- one of some keywords, each for a value
abbrev pub choice_of : {A : Type 0} → List (List ℕ × A) → VToken → Result A Reason
choice_of words (token.Keyword w) = choice_by w (meant_by words w)
choice_of words t = Err (misplaced t)

-- how a constant begins: a string, a real and digits without a size are whole; a sign and a number may go on
abbrev pub const_start : VToken → Result ConstStart Reason
const_start (token.Str s) = Ok (const_starts.Whole (consts.Str s))
const_start (token.Real r) = Ok (const_starts.Whole (consts.Real r))
const_start (token.Based b) = Ok (const_starts.Whole (consts.Loose b))
const_start (token.Number n) = Ok (const_starts.Number n)
const_start (token.Punct b) = if nat_eq b 43 then Ok (const_starts.Sign false) else (if nat_eq b 45 then Ok (const_starts.Sign true) else Err reasons.Unexpected)
const_start t = Err (misplaced t)

-- a number with its sign
abbrev pub with_sign : Bool → ℤ → ℤ
with_sign negative n = if negative then neg_ℤ n else n

-- the number or the real behind a sign
abbrev pub signed_of : Bool → VToken → Result Const Reason
signed_of negative (token.Number n) = Ok (consts.Number (with_sign negative n))
signed_of negative (token.Real r) = Ok (consts.Real (record { mantissa = with_sign negative r.mantissa; exponent = r.exponent }))
signed_of negative t = Err (misplaced t)

-- ---- tokens that need not be taken

-- a punctuation mark
abbrev pub at_mark : ℕ → VToken → Glance (Unit {0}) Reason
at_mark due (token.Punct b) = if nat_eq b due then takes tt else leaves
at_mark due t = leaves

-- `(*`
abbrev pub at_group : VToken → Glance (Unit {0}) Reason
at_group token.AttrStart = takes tt
at_group t = leaves

-- a name
abbrev pub at_name : VToken → Glance (List ℕ) Reason
at_name (token.Name n) = takes n
at_name t = leaves

-- what is there is taken, and another token is left
abbrev pub glance_of : {A : Type 0} → Option A → Glance A Reason
glance_of (Some a) = takes a
glance_of None = leaves

-- one of some keywords, each for a value
abbrev pub at_choice : {A : Type 0} → List (List ℕ × A) → VToken → Glance A Reason
at_choice words (token.Keyword w) = glance_of (meant_by words w)
at_choice words t = leaves

-- a token that begins an expression, where as many braces as there may be are still to be opened
abbrev pub at_expr : VToken → Glance ExprStart Reason
at_expr (token.Name n) = takes (starts.Name n)
at_expr (token.Number n) = takes (starts.Number n)
at_expr (token.Based b) = takes (starts.Based b)
at_expr (token.Punct b) = if nat_eq b 123 then takes starts.Brace else leaves
at_expr t = leaves
