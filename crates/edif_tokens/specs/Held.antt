-- What the bytes that are held show of the next token.
use Rattle.std.specs.Prelude.{ℕ, Bool, ◌||◌, ◌==◌, nat_lt, nat_le, if◌then◌else◌, List, [], ◌∷◌, take, drop, length, slice_index, Option, Some, None}
use Rattle.std.specs.Char.{is_ascii_alphabetic}
use Rattle.std.specs.List.{prefix_len}
use Rattle.nl_base.specs.Place.{place_past}
use Rattle.nl_bytes.specs.declared.bytes.TheConstants.{LIMIT}
use Rattle.nl_bytes.specs.Classes.{is_space, is_word_byte}
use Rattle.nl_bytes.specs.Bytes.{Window, given}
use Rattle.edif_values.specs.declared.token.Token.{Token}
use Rattle.edif_values.specs.declared.token.Token.TheVariants.{LeftParen, RightParen}
use Rattle.edif_tokens.specs.Spelling.{may_follow, is_parenthesis}

-- all bytes that are held lie within the limit of an input
abbrev pub is_near : Window → Bool
is_near w = nat_le (given w) LIMIT

-- how many bytes of white space are at the front
abbrev pub space_length : List ℕ → ℕ
space_length bs = prefix_len is_space bs

-- what is held once so many bytes of it are used
abbrev pub past : ℕ → Window → Window
past n w = record { held = drop n w.held; place = place_past w.place (take n w.held) }

-- what is held behind white space
abbrev pub past_space : Window → Window
past_space w = past (space_length w.held) w

-- ---- parentheses

-- the token that a parenthesis is
abbrev pub mark_token : ℕ → Token
mark_token b = if b == 40 then LeftParen else RightParen

-- the parenthesis at the front of some bytes
abbrev pub front_mark : List ℕ → Option ℕ
front_mark [] = None
front_mark (b ∷ bs) = if is_parenthesis b then Some b else None

-- the parenthesis that is next behind white space, where the bytes that are held show it
unfoldable pub held_mark : Window → Option ℕ
held_mark w = if is_near w then front_mark (drop (space_length w.held) w.held) else None

-- what is held behind white space and a parenthesis
unfoldable pub past_mark : Window → Window
past_mark w = past 1 (past_space w)

-- ---- words

-- n bytes of a word, where they are not too many and the byte behind them is there and may follow a word; 0 where not
abbrev pub word_by : List ℕ → ℕ → ℕ
word_by bs n = if nat_lt 1024 n || nat_le (length bs) n then 0 else (if may_follow (slice_index bs n) then n else 0)

-- how many bytes a word that begins with a letter has at the front, where its end is there; 0 where not
unfoldable pub word_length : List ℕ → ℕ
word_length [] = 0
word_length (b ∷ bs) = if is_ascii_alphabetic b then word_by (b ∷ bs) (prefix_len is_word_byte (b ∷ bs)) else 0

-- the word that begins with a letter at the front of some bytes, where its end is there; no bytes where not
abbrev pub front_word : List ℕ → List ℕ
front_word bs = take (word_length bs) bs

-- the word that is next behind white space, where the bytes that are held show it and its end; no bytes where not
unfoldable pub held_word : Window → List ℕ
held_word w = if is_near w then front_word (drop (space_length w.held) w.held) else []

-- what is held behind white space and the word
unfoldable pub past_word : Window → Window
past_word w = past (length (held_word w)) (past_space w)
