-- The table of reasons, computed on texts: the tokens before, the token, and the reason.
use Rattle.std.proofs.Common.{◌≡◌, refl, ℕ, [], ◌∷◌, ◌++◌, pos, codes, replicate}
use Rattle.grammar.specs.Whole.{Terminal, proper, end}
use Rattle.nl_base.specs.Place.{place_at_start}
use Rattle.nl_base.specs.declared.place.Place.{Place}
use Rattle.nl_base.specs.declared.fault.Reason.TheVariants as reasons
use Rattle.vlog_tokens.specs.declared.token.VFound.{VFound}
use Rattle.vlog_tokens.specs.declared.token.VToken.{VToken}
use Rattle.vlog_tokens.specs.declared.token.VToken.TheVariants as t
use Rattle.vlog_values.specs.declared.literal.Based.{Based}
use Rattle.vlog_reasons.specs.Context.{Tokens}
use Rattle.vlog_reasons.specs.Rows.{reason_at, reason_row}

abbrev seen : VToken → Terminal VFound Place
seen u = proper (record { place = place_at_start; stop = 0; token = u })

abbrev mark : ℕ → Terminal VFound Place
mark b = seen (t.Punct b)

abbrev number : ℕ → Terminal VFound Place
number n = seen (t.Number (pos n))

-- assign a
abbrev assigned : Tokens
assigned = seen (t.Keyword (codes "assign")) ∷ seen (t.Name (codes "a")) ∷ []

-- assign a =
abbrev due : Tokens
due = assigned ++ mark 61 ∷ []

pub at_the_end : reason_row due (end place_at_start) ≡ reasons.EndOfInput
unfolding reason_at
at_the_end = refl

-- assign a[2147483648; assign a[-2147483648; assign a[0:2147483648; assign a[0 0
pub range : reason_row (assigned ++ mark 91 ∷ []) (number 2147483648) ≡ reasons.NumberRange
unfolding reason_at
range = refl

pub range_below : reason_row (assigned ++ mark 91 ∷ mark 45 ∷ []) (number 2147483648) ≡ reasons.NumberRange
unfolding reason_at
range_below = refl

pub range_behind : reason_row (assigned ++ mark 91 ∷ number 0 ∷ mark 58 ∷ []) (number 2147483648) ≡ reasons.NumberRange
unfolding reason_at
range_behind = refl

pub no_bound_due : reason_row (assigned ++ mark 91 ∷ number 0 ∷ []) (number 2147483648) ≡ reasons.Unexpected
unfolding reason_at
no_bound_due = refl

-- assign a = 0'b1; assign a = 65537'b1; assign a = 8'b1'b1; assign a[0'b1
pub size_0 : (b : Based) → reason_row (due ++ number 0 ∷ []) (seen (t.Based b)) ≡ reasons.NumberRange
unfolding reason_at
size_0 b = refl

pub size_above : (b : Based) → reason_row (due ++ number 65537 ∷ []) (seen (t.Based b)) ≡ reasons.NumberRange
unfolding reason_at
size_above b = refl

pub digits_twice : (b : Based) → reason_row (due ++ number 8 ∷ seen (t.Based b) ∷ []) (seen (t.Based b)) ≡ reasons.Unexpected
unfolding reason_at
digits_twice b = refl

pub size_in_bound : (b : Based) → reason_row (assigned ++ mark 91 ∷ number 0 ∷ []) (seen (t.Based b)) ≡ reasons.Unexpected
unfolding reason_at
size_in_bound b = refl

-- parameter p = -0'b1
pub size_with_sign : (b : Based) → reason_row (due ++ mark 45 ∷ number 0 ∷ []) (seen (t.Based b)) ≡ reasons.Unexpected
unfolding reason_at
size_with_sign b = refl

-- assign a = and 64 braces in one another, and one more; the same, where a name stands before it
pub deep : reason_row (due ++ replicate 64 (mark 123)) (mark 123) ≡ reasons.TooDeep
unfolding reason_at
deep = refl

pub no_comma : reason_row (due ++ replicate 64 (mark 123) ++ seen (t.Name (codes "a")) ∷ []) (mark 123) ≡ reasons.Unexpected
unfolding reason_at
no_comma = refl

-- the second brace of a replication opens no level: {2{ in 62 and in 63 braces, and one more
pub second_in_62 : reason_row (due ++ replicate 63 (mark 123) ++ number 2 ∷ mark 123 ∷ []) (mark 123) ≡ reasons.Unexpected
unfolding reason_at
second_in_62 = refl

pub second_in_63 : reason_row (due ++ replicate 64 (mark 123) ++ number 2 ∷ mark 123 ∷ []) (mark 123) ≡ reasons.TooDeep
unfolding reason_at
second_in_63 = refl

-- the level of a replication ends with its last brace
pub level_ended : reason_row (due ++ replicate 64 (mark 123) ++ number 2 ∷ mark 123 ∷ seen (t.Name (codes "a")) ∷ mark 125
    ∷ mark 125 ∷ mark 44 ∷ []) (mark 123)
    ≡ reasons.Unexpected
unfolding reason_at
level_ended = refl

-- assign a = wire; assign a = *; assign a = `resetall
pub keyword : reason_row due (seen (t.Keyword (codes "wire"))) ≡ reasons.NotInProfile (codes "wire")
unfolding reason_at
keyword = refl

pub symbol : reason_row due (seen (t.Symbol 42)) ≡ reasons.NotInProfile (codes "*")
unfolding reason_at
symbol = refl

pub directive : reason_row due (seen (t.Directive (codes "`resetall"))) ≡ reasons.NotInProfile (codes "`resetall")
unfolding reason_at
directive = refl
