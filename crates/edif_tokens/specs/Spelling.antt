-- What the bytes at a place spell: a token, or a lexical fault. It speaks of all the bytes from there on.
use Rattle.std.specs.Prelude.{ℕ, ◌+◌, ◌-◌, ◌^◌, ◌*◌, fold, Bool, true, false, ◌||◌, ◌==◌, nat_lt, if◌then◌else◌, List, [], ◌∷◌, take, drop, Option, Some, None, Result, Ok, ℤ, pos, neg_ℤ}
use Rattle.std.specs.Char.{is_ascii_digit, is_ascii_alphabetic}
use Rattle.std.specs.List.{prefix_len}
use Rattle.nl_base.specs.declared.fault.Reason.TheVariants.{EndOfInput, BadByte, TokenTooLong, NumberRange}
use Rattle.nl_bytes.specs.Classes.{is_space, is_word_byte}
use Rattle.nl_bytes.specs.Bytes.{first}
pub use Rattle.nl_bytes.specs.Flaws.{Piece, Flaw, ◌>>=◌, flaw}
use Rattle.edif_tokens.specs.Strings.{Parts, string_at}
use Rattle.edif_values.specs.declared.token.Token.{Token}
use Rattle.edif_values.specs.declared.token.Token.TheVariants.{LeftParen, RightParen, Word, Number, Str}
use Rattle.edif_tokens.specs.declared.scan.Start.{Start}
use Rattle.edif_tokens.specs.declared.scan.Start.TheVariants.{Open, Close, Quote, Letter, Ampersand, Digit, Sign, Other}

-- ---- words and integers

-- what may stand directly after a word or an integer
abbrev pub may_follow : ℕ → Bool
may_follow b = is_space b || b == 40 || b == 41 || b == 34

-- a text of so many bytes ends where this byte, or the end, follows
abbrev pub ended : List ℕ → ℕ → Option ℕ → Result (Piece (List ℕ)) Flaw
ended text n None = Ok (record { value = text; count = n; seen = n })
ended text n (Some b) = if may_follow b then Ok (record { value = text; count = n; seen = n + 1 }) else flaw BadByte n (n + 1)

-- a text of n bytes, which end where they do
abbrev pub text_of : ℕ → List ℕ → Result (Piece (List ℕ)) Flaw
text_of n bs = if nat_lt 1024 n then flaw TokenTooLong 0 1025 else ended (take n bs) n (first (drop n bs))

-- the longest text of `lead` bytes and then bytes of a class
unfoldable pub span_at : (ℕ → Bool) → ℕ → List ℕ → Result (Piece (List ℕ)) Flaw
span_at class lead bs = text_of (lead + prefix_len class (drop lead bs)) bs

-- after a sign or an `&` a byte of the class has to stand
abbrev pub goes_on : (ℕ → Bool) → Option ℕ → Result (Piece (List ℕ)) Flaw → Result (Piece (List ℕ)) Flaw
goes_on class None text = flaw EndOfInput 1 1
goes_on class (Some b) text = if class b then text else flaw BadByte 1 2

abbrev pub led : Bool → (ℕ → Bool) → Option ℕ → Result (Piece (List ℕ)) Flaw → Result (Piece (List ℕ)) Flaw
led true class next text = goes_on class next text
led false class next text = text

-- a text of a first byte and then bytes of a class; after a sign or an `&`, which lead it, one of the class has to stand
abbrev pub text_at : (ℕ → Bool) → Bool → List ℕ → Result (Piece (List ℕ)) Flaw
text_at class lead bs = led lead class (first (drop 1 bs)) (span_at class 1 bs)

abbrev pub word_of : Piece (List ℕ) → Result (Piece Token) Flaw
word_of text = Ok (record { value = Word text.value; count = text.count; seen = text.seen })

-- the value of decimal digits
abbrev pub decimal_value : List ℕ → ℕ
decimal_value digits = fold (λ n d. 10 * n + (d - 48)) 0 digits

-- the number that a sign and digits, or digits, spell, where its absolute value is below 2 ^ 63
abbrev pub integer_of : List ℕ → Option ℤ
integer_of [] = None
integer_of (b ∷ bs) =
    let magnitude = if b == 43 || b == 45 then decimal_value bs else decimal_value (b ∷ bs) in
    if nat_lt magnitude (2 ^ 63) then Some (if b == 45 then neg_ℤ (pos magnitude) else pos magnitude) else None

abbrev pub number_or_range : Piece (List ℕ) → Option ℤ → Result (Piece Token) Flaw
number_or_range text None = flaw NumberRange 0 text.seen
number_or_range text (Some z) = Ok (record { value = Number z; count = text.count; seen = text.seen })

abbrev pub number_of : Piece (List ℕ) → Result (Piece Token) Flaw
number_of text = number_or_range text (integer_of text.value)

abbrev pub word_spelled : Bool → List ℕ → Result (Piece Token) Flaw
word_spelled lead bs = text_at is_word_byte lead bs >>= word_of

abbrev pub number_spelled : Bool → List ℕ → Result (Piece Token) Flaw
number_spelled lead bs = text_at is_ascii_digit lead bs >>= number_of

abbrev pub str_of : Piece (List ℕ) → Result (Piece Token) Flaw
str_of text = Ok (record { value = Str text.value; count = text.count; seen = text.seen })

abbrev pub string_spelled : List ℕ → Result (Piece Token) Flaw
string_spelled bs = string_at Parts [] 1 (drop 1 bs) >>= str_of

-- ---- all tokens

-- what a byte begins
abbrev pub start_of : ℕ → Start
start_of b =
    if b == 40 then Open
    else (if b == 41 then Close
    else (if b == 34 then Quote
    else (if is_ascii_alphabetic b then Letter
    else (if b == 38 then Ampersand
    else (if is_ascii_digit b then Digit
    else (if b == 43 || b == 45 then Sign
    else Other))))))

-- a parenthesis, which is a token by itself
abbrev pub is_parenthesis : ℕ → Bool
is_parenthesis b = b == 40 || b == 41

-- a letter begins a word, and so does an `&`, which leads it
abbrev pub begins_word : Bool → ℕ → Bool
begins_word false b = is_ascii_alphabetic b
begins_word true b = b == 38

abbrev pub mark : Token → Result (Piece Token) Flaw
mark token = Ok (record { value = token; count = 1; seen = 1 })

-- the token at the front of some bytes, of which the first is no white space
abbrev pub token_by : Start → List ℕ → Result (Piece Token) Flaw
token_by Open bs = mark LeftParen
token_by Close bs = mark RightParen
token_by Quote bs = string_spelled bs
token_by Letter bs = word_spelled false bs
token_by Ampersand bs = word_spelled true bs
token_by Digit bs = number_spelled false bs
token_by Sign bs = number_spelled true bs
token_by Other bs = flaw BadByte 0 1

unfoldable pub token_at : ℕ → List ℕ → Result (Piece Token) Flaw
token_at b bs = token_by (start_of b) (b ∷ bs)
