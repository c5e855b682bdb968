-- The number or the bracket of attributes that is next, where the bytes that are held show it.
use Rattle.std.specs.Prelude.{ℕ, ℤ, ◌==◌, if◌then◌else◌, List, [], ◌∷◌, take, drop, Option, Some, None}
use Rattle.std.specs.Char.{is_ascii_digit}
use Rattle.nl_bytes.specs.Bytes.{Window}
use Rattle.vlog_tokens.specs.declared.plain.Plain.{Plain}
use Rattle.vlog_tokens.specs.declared.plain.Plain.TheVariants as plains
use Rattle.vlog_tokens.specs.declared.token.VToken.{VToken}
use Rattle.vlog_tokens.specs.declared.token.VToken.TheVariants.{Number, AttrStart, AttrStop}
use Rattle.vlog_tokens.specs.Numbers.{number_of}
use Rattle.vlog_tokens.specs.Held.{is_near, space_length, past, past_space, number_length, is_pair}

-- the token that it is
abbrev pub plain_token : Plain → VToken
plain_token (plains.Number n) = Number n
plain_token plains.AttrStart = AttrStart
plain_token plains.AttrStop = AttrStop

-- what `(*` or `*)` is, by its first byte
abbrev pub pair_plain : ℕ → Plain
pair_plain b = if b == 40 then plains.AttrStart else plains.AttrStop

-- a number, where it is in range
abbrev pub number_plain : Option ℤ → Option Plain
number_plain (Some n) = Some (plains.Number n)
number_plain None = None

-- the number of n bytes at the front, where it is in range; none of no bytes
abbrev pub digits_plain : ℕ → List ℕ → Option Plain
digits_plain n bs = if n == 0 then None else number_plain (number_of (take n bs))

-- the number or the bracket at the front of some bytes, where they show it and its end
abbrev pub front_plain : List ℕ → Option Plain
front_plain [] = None
front_plain (b ∷ bs) = if is_ascii_digit b then digits_plain (number_length (b ∷ bs)) (b ∷ bs) else (if is_pair (b ∷ bs) then Some (pair_plain b) else None)

-- how many bytes the number or the bracket at the front has, where its end is there; 0 where not
unfoldable pub plain_length : List ℕ → ℕ
plain_length [] = 0
plain_length (b ∷ bs) = if is_ascii_digit b then number_length (b ∷ bs) else (if is_pair (b ∷ bs) then 2 else 0)

-- the number or the bracket that is next behind white space, where the bytes that are held show it and its end
unfoldable pub held_plain : Window → Option Plain
held_plain w = if is_near w then front_plain (drop (space_length w.held) w.held) else None

-- what is held behind white space and that token
unfoldable pub past_plain : Window → Window
past_plain w = past (plain_length (past_space w).held) (past_space w)
