-- Each token of a text of bytes is one that a text can have.
use Rattle.std.proofs.Common.{◌≡◌, refl, ℕ, zero, suc, ◌+◌, ◌-◌, ◌*◌, ◌<◌, ◌≤◌, Bool, true, false, cond, ltb, eqb, ◌||◌, ◌&&◌, List, [], ◌∷◌, ◌++◌, length, drop, Option, Some, None, Result, Ok, Err, arith, length-append}
use Rattle.std.specs.Prelude.{⊤, IfOk, IfSome}
use Rattle.std.proofs.lemmas.Bool.{ltb-false, leb-false}
use Rattle.nl_base.specs.Place.{place_after}
use Rattle.nl_base.specs.declared.place.Place.{Place}
use Rattle.nl_base.specs.declared.fault.Reason.TheVariants.{EndOfInput}
use Rattle.nl_bytes.specs.Bytes.{first}
use Rattle.nl_bytes.specs.Classes.{is_verilog_string_byte}
use Rattle.nl_bytes.proofs.Uses.{AllByRecursion-push}
use Rattle.nl_bytes.specs.Tokens.{Ahead}
use Rattle.nl_bytes.proofs.Limited.{limited_each}
use Rattle.vlog_values.specs.Values.{IsString}
use Rattle.vlog_tokens.specs.declared.token.VFound.{VFound}
use Rattle.vlog_tokens.specs.declared.token.VToken.TheVariants as token
use Rattle.vlog_tokens.specs.declared.item.Item.{Item}
use Rattle.vlog_tokens.specs.declared.item.Item.TheVariants.{Blank, Line, Token}
use Rattle.vlog_tokens.specs.declared.phase.Phase.{Phase}
use Rattle.vlog_tokens.specs.declared.start.Start.{Start}
use Rattle.vlog_tokens.specs.declared.start.Start.TheVariants as starts
use Rattle.vlog_tokens.specs.declared.string.Escaped.{Escaped}
use Rattle.vlog_tokens.specs.declared.string.Escaped.TheVariants.{Stands, Octal, NoEscape, NoByte}
use Rattle.nl_bytes.specs.Flaws.{Piece, Flaw, flaw, ◌>>=◌}
use Rattle.vlog_tokens.specs.Items.{item_of, finish, finished}
use Rattle.vlog_tokens.specs.Scanning.{Lexeme, scan_at, kept}
use Rattle.vlog_tokens.specs.Strings.{Within, Parts, Escape, Code, is_octal, escaped_by, is_full, part_by, escape_by, with_code, string_at}
use Rattle.vlog_tokens.specs.Spelling.{lexeme_spelled, str_of, comment_at, pair_by, slash_by, start_of, item_by, item_at}
use Rattle.vlog_tokens.specs.Language.{then_tokens, then_items, tokens_from, stop_of, stream_from, with_line}
use Rattle.vlog_tokens.specs.Proper.{AreBytes, IsProperItem, IsSound, AreSound}
use Rattle.vlog_tokens.proofs.Lexemes.{IsScanned, scan_good}
use Rattle.vlog_tokens.proofs.Proper.{Begins, IsBegun, begun_good, item_good}

-- ---- items of one kind

-- an item that is spelled is good
abbrev IsGoodPiece : Piece Item → Type 0
IsGoodPiece piece = IsProperItem piece.value

by_test : (t : Bool) (x y : Result (Piece Item) Flaw) → IfOk x IsGoodPiece → IfOk y IsGoodPiece → IfOk (cond t x y) IsGoodPiece
by_test true x y p q = p
by_test false x y p q = q

finished_good : (x : Piece Lexeme) (item : Option Item) → IfSome item IsProperItem → IfOk (finished x item) IsGoodPiece
finished_good x (Some item) h = h
finished_good x None h = tt

finish_good : (r : Result (Piece Lexeme) Flaw) → IfOk r IsScanned → IfOk (r >>= finish) IsGoodPiece
finish_good (Ok x) h = finished_good x (item_of x.value.phase x.value.text) (item_good x.value.phase x.value.text h)
finish_good (Err f) h = tt

lexeme_good : (phase : Phase) (b : ℕ) (bs : List ℕ) → Begins phase b → IfOk (lexeme_spelled phase b bs) IsGoodPiece
lexeme_good phase b bs h = finish_good (scan_at phase (kept phase b) 1 (drop 1 bs)) (scan_good phase (kept phase b) 1 (drop 1 bs) h)

comment_good : (star : Bool) (n : ℕ) (bs : List ℕ) → IfOk (comment_at star n bs) IsGoodPiece
unfolding comment_at
comment_good star n [] = tt
comment_good star n (b ∷ bs) =
    by_test (eqb b 42) (comment_at true (n + 1) bs) _ (comment_good true (n + 1) bs)
    (by_test (star && eqb b 47) (Ok (record { value = Blank; count = n + 1; seen = n + 1 })) (comment_at false (n + 1) bs) tt (comment_good false (n + 1) bs))

pair_good : (second : ℕ) (both single : Item) (next : Option ℕ) → IsProperItem both → IsProperItem single → IfOk (pair_by second both single next) IsGoodPiece
pair_good second both single None p q = q
pair_good second both single (Some b) p q = by_test (eqb b second) (Ok (record { value = both; count = 2; seen = 2 })) (Ok (record { value = single; count = 1; seen = 2 })) p q

slash_good : (next : Option ℕ) (rest : List ℕ) → IfOk (slash_by next rest) IsGoodPiece
slash_good None rest = tt
slash_good (Some b) rest =
    by_test (eqb b 47) (Ok (record { value = Line; count = 2; seen = 2 })) _ tt
    (by_test (eqb b 42) (comment_at false 2 rest) (Ok (record { value = Token (token.Symbol 47); count = 1; seen = 2 })) (comment_good false 2 rest) tt)

-- ---- strings

-- the value of a code so far is one of a byte
abbrev IsWithin : Within → Type 0
IsWithin Parts = ⊤
IsWithin Escape = ⊤
IsWithin (Code code more) = code ≤ 255

-- what the bytes of a string spell
abbrev IsText : Result (Piece (List ℕ)) Flaw → Type 0
IsText r = IfOk r (λ piece. IsString piece.value)

by_text : (t : Bool) (x y : Result (Piece (List ℕ)) Flaw) → (t ≡ true → IsText x) → (t ≡ false → IsText y) → IsText (cond t x y)
by_text true x y p q = p refl
by_text false x y p q = q refl

pushed : (value : List ℕ) (b : ℕ) → IsString value → b < 256 → is_full value ≡ false → IsString (value ++ b ∷ [])
pushed value b s lt room = record {
  bytes = AllByRecursion-push (λ x. x < 256) value b s.bytes lt;
  short = let k = leb-false 1048576 (length value) room in omega (arith, k, length-append value (b ∷ []));
}

-- whatever comes behind a byte
abbrev Goes : (Within → List ℕ → Result (Piece (List ℕ)) Flaw) → Type 0
Goes after = (next : Within) (more : List ℕ) → IsWithin next → IsString more → IsText (after next more)

part_good : (value : List ℕ) (n b : ℕ) (after : Within → List ℕ → Result (Piece (List ℕ)) Flaw) → b < 256 → IsString value → Goes after → IsText (part_by value n b after)
part_good value n b after lt s go =
    by_text (eqb b 34) _ _ (λ _. s) (λ _. by_text (eqb b 92) _ _ (λ _. go Escape value tt s)
    (λ _. by_text (is_verilog_string_byte b) _ _ (λ _. by_text (is_full value) _ _ (λ _. tt) (λ room. go Parts (value ++ b ∷ []) tt (pushed value b s lt room))) (λ _. tt)))

-- the byte for which an escape stands, or its first digit
abbrev IsEscaped : Escaped → Type 0
IsEscaped (Stands c) = c < 256
IsEscaped (Octal digit) = digit ≤ 255
IsEscaped NoEscape = ⊤
IsEscaped NoByte = ⊤

escaped_test : (t : Bool) (x y : Escaped) → IsEscaped x → IsEscaped y → IsEscaped (cond t x y)
escaped_test true x y p q = p
escaped_test false x y p q = q

escaped_good : (b : ℕ) → b < 256 → IsEscaped (escaped_by b)
escaped_good b lt =
    escaped_test (eqb b 110) (Stands 10) _ (omega arith) (escaped_test (eqb b 116) (Stands 9) _ (omega arith) (escaped_test (eqb b 92 || eqb b 34) (Stands b) _ lt
    (escaped_test (is_octal b) (Octal (b - 48)) _ (omega (arith, lt)) (escaped_test (is_verilog_string_byte b) NoEscape NoByte tt tt))))

escape_good : (e : Escaped) (value : List ℕ) (n : ℕ) (after : Within → List ℕ → Result (Piece (List ℕ)) Flaw) → IsEscaped e → IsString value → Goes after → IsText (escape_by e value n after)
escape_good (Stands c) value n after h s go = by_text (is_full value) _ _ (λ _. tt) (λ room. go Parts (value ++ c ∷ []) tt (pushed value c s h room))
escape_good (Octal digit) value n after h s go = go (Code digit 2) value h s
escape_good NoEscape value n after h s go = tt
escape_good NoByte value n after h s go = tt

code_good : (value : List ℕ) (n : ℕ) (rest : Result (Piece (List ℕ)) Flaw) → (is_full value ≡ false → IsText rest) → IsText (with_code value n rest)
code_good value n rest h = by_text (is_full value) _ rest (λ _. tt) h

string_good : (m : Within) (value : List ℕ) (n : ℕ) (bs : List ℕ) → AreBytes bs → IsString value → IsWithin m → IsText (string_at m value n bs)
unfolding string_at
string_good Parts value n [] all s h = tt
string_good Escape value n [] all s h = tt
string_good (Code code more) value n [] all s h = code_good value n (flaw EndOfInput n n) (λ _. tt)
string_good Parts value n (b ∷ bs) all s h = part_good value n b (λ next more. string_at next more (n + 1) bs) all.0 s (λ next more is good. string_good next more (n + 1) bs all.1 good is)
string_good Escape value n (b ∷ bs) all s h =
    escape_good (escaped_by b) value n (λ next more. string_at next more (n + 1) bs) (escaped_good b all.0) s (λ next more is good. string_good next more (n + 1) bs all.1 good is)
string_good (Code code more) value n (b ∷ bs) all s h =
    by_text (ltb 0 more && is_octal b) _ _
    (λ _. by_text (ltb 255 (8 * code + (b - 48))) _ _ (λ _. tt) (λ le. string_good (Code (8 * code + (b - 48)) (more - 1)) value (n + 1) bs all.1 s (ltb-false _ _ le)))
    (λ _. code_good value n _ (λ room. part_good (value ++ code ∷ []) n b (λ next kept. string_at next kept (n + 1) bs) all.0 (pushed value code s (omega (arith, h)) room)
    (λ next kept is good. string_good next kept (n + 1) bs all.1 good is)))

str_good : (r : Result (Piece (List ℕ)) Flaw) → IsText r → IfOk (r >>= str_of) IsGoodPiece
str_good (Ok piece) h = h
str_good (Err f) h = tt

all_drop : (n : ℕ) (bs : List ℕ) → AreBytes bs → AreBytes (drop n bs)
all_drop zero bs all = all
all_drop (suc n) [] all = all
all_drop (suc n) (b ∷ bs) all = all_drop n bs all.1

no_bytes : IsString []
no_bytes = record { bytes = tt; short = omega arith }

-- ---- all items

by_good : (start : Start) (b : ℕ) (bs : List ℕ) → IsBegun b start → AreBytes bs → IfOk (item_by start b bs) IsGoodPiece
by_good starts.White b bs h all = tt
by_good (starts.Lexeme phase) b bs h all = lexeme_good phase b bs h
by_good starts.Quote b bs h all = str_good (string_at Parts [] 1 (drop 1 bs)) (string_good Parts [] 1 (drop 1 bs) (all_drop 1 bs all) no_bytes tt)
by_good starts.Open b bs h all = pair_good 42 (Token token.AttrStart) (Token (token.Punct 40)) (first (drop 1 bs)) tt tt
by_good starts.Star b bs h all = pair_good 41 (Token token.AttrStop) (Token (token.Symbol 42)) (first (drop 1 bs)) tt tt
by_good starts.Slash b bs h all = slash_good (first (drop 1 bs)) (drop 2 bs)
by_good starts.Mark b bs h all = tt
by_good starts.Sign b bs h all = tt
by_good starts.Other b bs h all = tt

at_good : (b : ℕ) (bs : List ℕ) → AreBytes (b ∷ bs) → IfOk (item_at b bs) IsGoodPiece
unfolding item_at
at_good b bs all = by_good (start_of b) b (b ∷ bs) (begun_good b) all

-- ---- texts

tokens_good : (item : Item) (p : Place) (bs : List ℕ) (count seen : ℕ) (after : ℕ → Ahead VFound) → IsProperItem item → ((n : ℕ) → AreSound (after n).tokens) → AreSound (then_tokens item p bs count seen after).tokens
tokens_good Blank p bs count seen after h rest = rest count
tokens_good Line p bs count seen after h rest = rest (with_line count bs)
tokens_good (Token t) p bs count seen after h rest = (h, rest count)

items_good : (p : Place) (bs : List ℕ) (r : Result (Piece Item) Flaw) (after : ℕ → Ahead VFound) → IfOk r IsGoodPiece → ((n : ℕ) → AreSound (after n).tokens) → AreSound (then_items p bs r after).tokens
items_good p bs (Ok piece) after h rest = tokens_good piece.value p bs piece.count piece.seen after h rest
items_good p bs (Err f) after h rest = tt

all_good : (skipped : ℕ) (p : Place) (bs : List ℕ) → AreBytes bs → AreSound (tokens_from skipped p bs).tokens
unfolding tokens_from
all_good zero p [] all = (tt, tt)
all_good (suc n) p [] all = (tt, tt)
all_good (suc n) p (b ∷ bs) all = all_good n (place_after p b) bs all.1
all_good zero p (b ∷ bs) all = items_good p (b ∷ bs) (item_at b bs) (λ count. tokens_from (count - 1) (place_after p b) bs) (at_good b bs all) (λ count. all_good (count - 1) (place_after p b) bs all.1)

-- The tokens of a text of bytes are such as a text can have.
pub tokens_sound : (p : Place) (bs : List ℕ) → AreBytes bs → AreSound (stream_from p bs).tokens
unfolding stream_from
tokens_sound p bs all = limited_each IsSound stop_of (tokens_from 0 p bs) (all_good 0 p bs all)
