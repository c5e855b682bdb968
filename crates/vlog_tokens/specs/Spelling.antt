-- What the bytes at a place spell: white space, a token, or a lexical fault (IEEE 1364-2005, 3). It speaks of all the bytes from
-- there on.
use Rattle.std.specs.Prelude.{ℕ, ◌+◌, Bool, true, false, ◌&&◌, ◌||◌, ◌==◌, if◌then◌else◌, List, [], ◌∷◌, drop, Option, Some, None, Result, Ok}
use Rattle.std.specs.Char.{is_ascii_digit, is_ascii_alphabetic}
use Rattle.nl_base.specs.declared.fault.Reason.TheVariants.{EndOfInput, BadByte}
use Rattle.nl_bytes.specs.Classes.{is_verilog_space}
use Rattle.nl_bytes.specs.Bytes.{first}
use Rattle.vlog_tokens.specs.declared.token.VToken.TheVariants.{Str, Punct, AttrStart, AttrStop, Symbol}
use Rattle.vlog_tokens.specs.declared.item.Item.{Item}
use Rattle.vlog_tokens.specs.declared.item.Item.TheVariants.{Blank, Line, Token}
use Rattle.vlog_tokens.specs.declared.phase.Phase.{Phase}
use Rattle.vlog_tokens.specs.declared.phase.Phase.TheVariants.{Word, Escape, Whole, Prefix, Grave}
use Rattle.vlog_tokens.specs.declared.start.Start.{Start}
use Rattle.vlog_tokens.specs.declared.start.Start.TheVariants.{White, Lexeme, Quote, Open, Star, Slash, Mark, Sign, Other}
use Rattle.vlog_tokens.specs.declared.mark.PairStart.{PairStart}
use Rattle.vlog_tokens.specs.declared.mark.PairStart.TheVariants as pair_starts
use Rattle.nl_bytes.specs.Flaws.{Piece, Flaw, ◌>>=◌, flaw}
use Rattle.vlog_tokens.specs.Scanning.{begun}
use Rattle.vlog_tokens.specs.Items.{finish}
use Rattle.vlog_tokens.specs.Strings.{Parts, string_at}

-- a name, a number, a real, a based literal or a directive, whose first byte b makes it begin in a phase (3.5, 3.7, 19)
abbrev pub lexeme_spelled : Phase → ℕ → List ℕ → Result (Piece Item) Flaw
lexeme_spelled phase b bs = begun phase b 0 bs >>= finish

abbrev pub str_of : Piece (List ℕ) → Result (Piece Item) Flaw
str_of text = Ok (record { value = Token (Str text.value); count = text.count; seen = text.seen })

-- a string (3.6)
abbrev pub string_spelled : List ℕ → Result (Piece Item) Flaw
string_spelled bs = string_at Parts [] 1 (drop 1 bs) >>= str_of

-- what comes of a block comment of n bytes so far, of which the last may be a `*`; it ends with the next `*/` (3.3)
unfoldable pub comment_at : Bool → ℕ → List ℕ → Result (Piece Item) Flaw
comment_at star n [] = flaw EndOfInput n n
comment_at star n (b ∷ bs) =
    if b == 42 then comment_at true (n + 1) bs
    else (if star && (b == 47) then Ok (record { value = Blank; count = n + 1; seen = n + 1 })
    else comment_at false (n + 1) bs)

-- a token of one byte, behind which nothing has to be seen
abbrev pub alone : Item → Result (Piece Item) Flaw
alone item = Ok (record { value = item; count = 1; seen = 1 })

-- a byte that is a token with a second byte, and another without it
abbrev pub pair_by : ℕ → Item → Item → Option ℕ → Result (Piece Item) Flaw
pair_by second both single None = alone single
pair_by second both single (Some b) = if b == second then Ok (record { value = both; count = 2; seen = 2 }) else Ok (record { value = single; count = 1; seen = 2 })

-- the second byte of `(*` and of `*)`
abbrev pub second_of : PairStart → ℕ
second_of pair_starts.Open = 42
second_of pair_starts.Star = 41

-- what `(*` and `*)` are, which begin and end attributes (3.8)
abbrev pub both_of : PairStart → Item
both_of pair_starts.Open = Token AttrStart
both_of pair_starts.Star = Token AttrStop

-- what `(` and `*` are alone
abbrev pub single_of : PairStart → Item
single_of pair_starts.Open = Token (Punct 40)
single_of pair_starts.Star = Token (Symbol 42)

-- `(*`, `*)`, `(` or `*`
abbrev pub pair_start_by : PairStart → Option ℕ → Result (Piece Item) Flaw
pair_start_by pair_start next = pair_by (second_of pair_start) (both_of pair_start) (single_of pair_start) next

-- after a `/`: a comment to the end of the line, a block comment, or a symbol (3.3)
abbrev pub slash_by : Option ℕ → List ℕ → Result (Piece Item) Flaw
slash_by None rest = alone (Token (Symbol 47))
slash_by (Some b) rest =
    if b == 47 then Ok (record { value = Line; count = 2; seen = 2 })
    else (if b == 42 then comment_at false 2 rest
    else Ok (record { value = Token (Symbol 47); count = 1; seen = 2 }))

-- ---- all tokens

-- `( ) [ ] { } , ; : . # = + -`, of which `(` may begin a `(*`
abbrev pub is_mark : ℕ → Bool
is_mark b = b == 41 || b == 91 || b == 93 || b == 123 || b == 125 || b == 44 || b == 59 || b == 58 || b == 46 || b == 35 || b == 61 || b == 43 || b == 45

-- `! $ % & < > ? @ ^ | ~`; the symbols `*` and `/` may begin a `*)` or a comment
abbrev pub is_symbol : ℕ → Bool
is_symbol b = b == 33 || b == 36 || b == 37 || b == 38 || b == 60 || b == 62 || b == 63 || b == 64 || b == 94 || b == 124 || b == 126

-- a letter or `_`, which begins a simple name or a keyword (3.7)
abbrev pub begins_name : ℕ → Bool
begins_name b = is_ascii_alphabetic b || b == 95

-- what a byte begins
abbrev pub start_of : ℕ → Start
start_of b =
    if is_verilog_space b then White
    else (if begins_name b then Lexeme Word
    else (if is_ascii_digit b then Lexeme Whole
    else (if b == 92 then Lexeme Escape
    else (if b == 39 then Lexeme Prefix
    else (if b == 96 then Lexeme Grave
    else (if b == 34 then Quote
    else (if b == 40 then Open
    else (if b == 42 then Star
    else (if b == 47 then Slash
    else (if is_mark b then Mark
    else (if is_symbol b then Sign
    else Other)))))))))))

-- what stands at the front of some bytes, whose first is b
abbrev pub item_by : Start → ℕ → List ℕ → Result (Piece Item) Flaw
item_by White b bs = alone Blank
item_by (Lexeme phase) b bs = lexeme_spelled phase b bs
item_by Quote b bs = string_spelled bs
item_by Open b bs = pair_start_by pair_starts.Open (first (drop 1 bs))
item_by Star b bs = pair_start_by pair_starts.Star (first (drop 1 bs))
item_by Slash b bs = slash_by (first (drop 1 bs)) (drop 2 bs)
item_by Mark b bs = alone (Token (Punct b))
item_by Sign b bs = alone (Token (Symbol b))
item_by Other b bs = flaw BadByte 0 1

unfoldable pub item_at : ℕ → List ℕ → Result (Piece Item) Flaw
item_at b bs = item_by (start_of b) b (b ∷ bs)

-- ---- what the parts of the reader answer

-- the byte ahead is a `/`
abbrev pub is_slash : Option ℕ → Bool
is_slash None = false
is_slash (Some b) = b == 47

-- white space of n bytes has ended
abbrev pub blank_now : ℕ → List ℕ → Result (Piece Item) Flaw
blank_now n rest = Ok (record { value = Blank; count = n; seen = n })
