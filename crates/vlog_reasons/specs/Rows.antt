-- The table of the reasons of first faults in Verilog texts: its rows from top to bottom, of which
-- the first that fits says the reason. Whether a row fits is said by what stands before a token and
-- by the token itself (IEEE 1364-2005, 3 and A.8).
use Rattle.std.specs.Prelude.{ℤ, pos, negsuc, int_lt, ◌==◌, Bool, true, false, not, ◌&&◌, ◌||◌, List, [], ◌∷◌, Option, Some, None}
use Rattle.grammar.specs.Whole.{Terminal, proper, end}
use Rattle.nl_base.specs.declared.place.Place.{Place}
use Rattle.nl_base.specs.declared.fault.Reason.{Reason}
use Rattle.nl_base.specs.declared.fault.Reason.TheVariants as reasons
use Rattle.vlog_tokens.specs.declared.token.VFound.{VFound}
use Rattle.vlog_tokens.specs.declared.token.VToken.{VToken}
use Rattle.vlog_tokens.specs.declared.token.VToken.TheVariants.{Keyword, Number, Based, Punct, Symbol, Directive}
use Rattle.vlog_reasons.specs.Context.{Tokens, Context, is_mark, levels, behind_all, at_start}

-- what a row says: its reason where it fits
abbrev pub Row : Type 0
Row = Option Reason

-- the reason, where this is so
abbrev pub when : Bool → Reason → Row
when true reason = Some reason
when false reason = None

-- ---- where a token stands

-- whether a number lies between two others
abbrev pub is_between : ℤ → ℤ → ℤ → Bool
is_between below above n = int_lt below n && int_lt n above

-- whether a token has a bound behind it: `[` (91) or `:` (58)
abbrev pub opens_bound : Option VToken → Bool
opens_bound token = is_mark 91 token || is_mark 58 token

-- whether a token is a sign: `+` (43) or `-` (45)
abbrev pub is_sign : Option VToken → Bool
is_sign token = is_mark 43 token || is_mark 45 token

-- whether the number of a bound is due: behind a token that has a bound behind it, or behind a `-`
-- that stands there
abbrev pub bound_is_due : Context → Bool
bound_is_due c = opens_bound c.last || (is_mark 45 c.last && opens_bound c.earlier)

-- whether a token is a number that is no size: sizes are from 1 to 65,536
abbrev pub is_no_size : Option VToken → Bool
is_no_size (Some (Number n)) = not (is_between (pos 0) (pos 65537) n)
is_no_size token = false

-- whether a number behind a token may be the size of digits behind it: one of a bound is none, and
-- none has a sign
abbrev pub may_be_size : Option VToken → Bool
may_be_size token = not (opens_bound token || is_sign token)

-- whether an expression in braces is due: behind `{` (123) or `,` (44)
abbrev pub expression_is_due : Option VToken → Bool
expression_is_due token = is_mark 123 token || is_mark 44 token

-- ---- the rows

-- NumberRange: the number of a bound that is not from 0 to 2^31-1, and digits whose size is no size
abbrev pub number_range : Context → VToken → Row
number_range c (Number n) =
    when (bound_is_due c && not (is_between (negsuc 0) (pos 2147483648) n)) reasons.NumberRange
number_range c (Based b) = when (is_no_size c.last && may_be_size c.earlier) reasons.NumberRange
number_range c t = None

-- TooDeep: a `{` where an expression is due and 64 levels are open
abbrev pub too_deep : Context → VToken → Row
too_deep c (Punct b) =
    when (b == 123 && expression_is_due c.last && levels c.braces == 64) reasons.TooDeep
too_deep c t = None

-- NotInProfile: a keyword, a symbol or a directive, with its spelling
abbrev pub not_in_profile : Context → VToken → Row
not_in_profile c (Keyword w) = Some (reasons.NotInProfile w)
not_in_profile c (Symbol b) = Some (reasons.NotInProfile (b ∷ []))
not_in_profile c (Directive w) = Some (reasons.NotInProfile w)
not_in_profile c t = None

-- Unexpected: every other token
abbrev pub unexpected : Context → VToken → Row
unexpected c t = Some reasons.Unexpected

-- the rows for a token, from top to bottom
abbrev pub rows : List (Context → VToken → Row)
rows = number_range ∷ too_deep ∷ not_in_profile ∷ unexpected ∷ []

-- the reason of the first row that fits; the last one always does
abbrev pub or_next : Row → Reason → Reason
or_next (Some reason) next = reason
or_next None next = next

abbrev pub first_that_fits : List (Context → VToken → Row) → Context → VToken → Reason
first_that_fits [] c t = reasons.Unexpected
first_that_fits (row ∷ below) c t = or_next (row c t) (first_that_fits below c t)

-- the reason that these rows give a token where it stands
abbrev pub reason_of : Context → VToken → Reason
reason_of c t = first_that_fits rows c t

-- The reason that the table gives a token, or the end of the input, where it stands. Above these
-- rows stand EndOfInput, of the end, and those of bytes that are no token, which have their own.
unfoldable pub reason_at : Context → Terminal VFound Place → Reason
reason_at c (proper x) = reason_of c x.token
reason_at c (end p) = reasons.EndOfInput

-- The reason that the table gives a token, or the end of the input, after some tokens.
abbrev pub reason_row : Tokens → Terminal VFound Place → Reason
reason_row before x = reason_at (behind_all at_start before) x
