-- What the bytes that are held show of the next token.
use Rattle.std.specs.Prelude.{ℕ, ℤ, Result, Ok, Err, Bool, false, ◌||◌, ◌==◌, nat_lt, nat_le, if◌then◌else◌, List, [], ◌∷◌, take, drop, length, slice_index, Option, Some, None}
use Rattle.std.specs.List.{prefix_len}
use Rattle.nl_base.specs.Place.{place_past}
use Rattle.nl_base.specs.declared.place.Place.{Place}
use Rattle.nl_base.specs.declared.fault.Reason.TheVariants.{NumberRange}
use Rattle.nl_base.specs.declared.fault.ReadError.{ReadError}
use Rattle.nl_bytes.specs.declared.bytes.TheConstants.{LIMIT}
use Rattle.nl_bytes.specs.Classes.{is_verilog_space, is_name_byte, is_number_byte, is_graphic, is_verilog_string_byte}
use Rattle.nl_bytes.specs.Bytes.{Window, given}
use Rattle.vlog_tokens.specs.declared.token.VFound.{VFound}
use Rattle.vlog_tokens.specs.declared.token.VToken.{VToken}
use Rattle.vlog_tokens.specs.declared.token.VToken.TheVariants.{Number, AttrStart, AttrStop}
use Rattle.vlog_tokens.specs.Numbers.{number_of}
use Rattle.nl_bytes.specs.Flaws.{refusal}
use Rattle.vlog_tokens.specs.Phases.{is_mark}
use Rattle.vlog_tokens.specs.Spelling as marks

-- all bytes that are held lie within the limit of an input
abbrev pub is_near : Window → Bool
is_near w = nat_le (given w) LIMIT

-- ---- marks

-- a `(` and the byte behind it, which is no mark where that is the `*` of `(*`
abbrev pub open_mark : List ℕ → Option ℕ
open_mark [] = None
open_mark (b ∷ bs) = if b == 42 then None else Some 40

-- the punctuation mark at the front of some bytes, where they show that it is one
abbrev pub front_mark : List ℕ → Option ℕ
front_mark [] = None
front_mark (b ∷ bs) = if b == 40 then open_mark bs else (if marks.is_mark b then Some b else None)

-- how many bytes of white space are at the front
abbrev pub space_length : List ℕ → ℕ
space_length bs = prefix_len is_verilog_space bs

-- the punctuation mark that is next behind white space, where the bytes that are held show it
unfoldable pub held_mark : Window → Option ℕ
held_mark w = if is_near w then front_mark (drop (space_length w.held) w.held) else None

-- what is held once so many bytes of it are used
abbrev pub past : ℕ → Window → Window
past n w = record { held = drop n w.held; place = place_past w.place (take n w.held) }

-- what is held behind white space
abbrev pub past_space : Window → Window
past_space w = past (space_length w.held) w

-- what is held behind white space and a mark
unfoldable pub past_mark : Window → Window
past_mark w = past 1 (past_space w)

-- ---- names and numbers

-- n bytes of a name, where the byte behind them is there and they are not too many; 0 where not
abbrev pub name_length : List ℕ → ℕ → ℕ
name_length bs n = if nat_lt 1024 n || nat_le (length bs) n then 0 else n

-- how many bytes a simple name or a keyword at the front has, where its end is there; 0 where not
unfoldable pub word_length : List ℕ → ℕ
word_length bs = name_length bs (prefix_len is_name_byte bs)

-- how many bytes a simple name or a keyword has at the front of some bytes, where its end is there; 0 where not
unfoldable pub front_length : List ℕ → ℕ
front_length [] = 0
front_length (b ∷ bs) = if marks.begins_name b then word_length (b ∷ bs) else 0

-- the simple name or the keyword at the front of some bytes, where its end is there; no bytes where not
abbrev pub front_word : List ℕ → List ℕ
front_word bs = take (front_length bs) bs

-- the simple name or the keyword that is next behind white space, where the bytes that are held show it and its end; no bytes where not
unfoldable pub held_word : Window → List ℕ
held_word w = if is_near w then front_word (drop (space_length w.held) w.held) else []

-- what is held behind white space and that word
unfoldable pub past_word : Window → Window
past_word w = past (length (held_word w)) (past_space w)

-- a byte that makes a number a real: a point or an `e`
abbrev pub makes_real : ℕ → Bool
makes_real b = b == 46 || is_mark b

-- n bytes of a number, where the byte behind them is there and ends it; 0 where not
abbrev pub number_by : List ℕ → ℕ → ℕ
number_by bs n = if nat_le (length bs) n then 0 else (if makes_real (slice_index bs n) then 0 else n)

-- how many bytes a number at the front has, where its end is there; 0 where not
unfoldable pub number_length : List ℕ → ℕ
number_length bs = number_by bs (prefix_len is_number_byte bs)

-- n bytes of an escaped name, where white space ends them; 0 where not
abbrev pub escaped_by : List ℕ → ℕ → ℕ
escaped_by bs n = if is_verilog_space (slice_index bs n) then n else 0

-- how many bytes an escaped name has behind its `\`, where its end is there; 0 where not
unfoldable pub escaped_length : List ℕ → ℕ
escaped_length bs = escaped_by bs (name_length bs (prefix_len is_graphic bs))

-- ---- strings

-- n bytes of a string, where a quote is behind them
abbrev pub quoted_by : List ℕ → ℕ → Option ℕ
quoted_by bs n = if nat_le (length bs) n then None else (if slice_index bs n == 34 then Some n else None)

-- how many bytes a string without escapes has behind its first quote, where its last is there
unfoldable pub quoted_length : List ℕ → Option ℕ
quoted_length bs = quoted_by bs (prefix_len is_verilog_string_byte bs)

-- ---- brackets of attributes

-- a byte is at the front
abbrev pub begins_by : ℕ → List ℕ → Bool
begins_by second [] = false
begins_by second (b ∷ bs) = b == second

-- `(*` or `*)` is at the front
abbrev pub is_pair : List ℕ → Bool
is_pair [] = false
is_pair (b ∷ bs) = if b == 40 then begins_by 42 bs else (if b == 42 then begins_by 41 bs else false)

-- what `(*` or `*)` is, by its first byte
abbrev pub pair_token : ℕ → VToken
pair_token b = if b == 40 then AttrStart else AttrStop

-- a number of this place and stop, or that it is out of range
abbrev pub number_at : Place → ℕ → Option ℤ → Result (Option VFound) ReadError
number_at p stop (Some n) = Ok (Some (record { place = p; stop = stop; token = Number n }))
number_at p stop None = Err (refusal p stop NumberRange)

abbrev pub number_found : Place → ℕ → List ℕ → Result (Option VFound) ReadError
number_found p stop digits = number_at p stop (number_of digits)
