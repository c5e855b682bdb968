-- The stops of the tokens of a text rise, so those before a fault within the limit of an input are within it too.
use Rattle.std.proofs.Common.{ℕ, zero, suc, ◌+◌, ◌-◌, ◌*◌, ◌≤◌, Bool, true, false, cond, leb, ltb, eqb, ◌&&◌, List, [], ◌∷◌, ◌++◌, length, drop, Option, Some, None, Result, Ok, Err, refl, arith}
use Rattle.nl_base.specs.declared.fault.Reason.TheVariants.{EndOfInput, BadEscape, TokenTooLong}
use Rattle.nl_base.specs.declared.place.Place.{Place}
use Rattle.nl_base.specs.Place.{place_after, place_at_start}
use Rattle.nl_bytes.specs.Bytes.{first}
use Rattle.nl_bytes.specs.Classes.{is_verilog_string_byte}
use Rattle.nl_bytes.specs.Tokens.{Ahead}
use Rattle.vlog_tokens.specs.declared.item.Item.{Item}
use Rattle.vlog_tokens.specs.declared.item.Item.TheVariants.{Blank, Line, Token}
use Rattle.vlog_tokens.specs.declared.token.VFound.{VFound}
use Rattle.vlog_tokens.specs.declared.token.VToken.TheVariants.{Symbol}
use Rattle.vlog_tokens.specs.declared.phase.Phase.{Phase}
use Rattle.vlog_tokens.specs.declared.phase.Step.{Step}
use Rattle.vlog_tokens.specs.declared.phase.Step.TheVariants.{Keep, Pass, Ends}
use Rattle.vlog_tokens.specs.declared.phase.Step.TheVariants as steps
use Rattle.vlog_tokens.specs.declared.start.Start.{Start}
use Rattle.vlog_tokens.specs.declared.start.Start.TheVariants as starts
use Rattle.vlog_tokens.specs.declared.mark.PairStart.TheVariants as pair_starts
use Rattle.vlog_tokens.specs.declared.string.Escaped.{Escaped}
use Rattle.vlog_tokens.specs.declared.string.Escaped.TheVariants.{Stands, Octal, NoEscape, NoByte}
use Rattle.nl_bytes.specs.Flaws.{Piece, Flaw, flaw, ◌>>=◌}
use Rattle.vlog_tokens.specs.Phases.{next_step, is_complete, most_of}
use Rattle.vlog_tokens.specs.Scanning.{Lexeme, scan_at, stepped, ended, kept}
use Rattle.vlog_tokens.specs.Items.{finish, finished, item_of}
use Rattle.vlog_tokens.specs.Strings.{Within, Parts, Escape, Code, is_octal, escaped_by, is_full, part_by, escape_by, with_code, string_at}
use Rattle.vlog_tokens.specs.Spelling.{pair_by, both_of, single_of, slash_by, comment_at, str_of, item_by, start_of, item_at}
use Rattle.vlog_tokens.specs.Language.{with_line, then_tokens, then_items, tokens_from, stop_of, all_tokens}
use Rattle.vlog_tokens.proofs.Within.{IsWithin, item_within}
use Rattle.readers.specs.Rises.{Rises}

-- ---- a piece has so many bytes or more, and at most one more was seen

abbrev IsFar : {A : Type 0} → ℕ → Result (Piece A) Flaw → Type 0
IsFar n (Ok piece) = (n ≤ piece.count) × (n ≤ piece.seen) × (piece.seen ≤ piece.count + 1)
IsFar n (Err f) = n ≤ f.seen

fewer : {A : Type 0} (m n : ℕ) (r : Result (Piece A) Flaw) → n ≤ m → IsFar m r → IsFar n r
fewer m n (Ok piece) le h = (omega (arith, h.0), omega (arith, h.1), h.2)
fewer m n (Err f) le h = omega (arith, h)

by_test : {A : Type 0} (n : ℕ) (t : Bool) (x y : Result (Piece A) Flaw) → IsFar n x → IsFar n y → IsFar n (cond t x y)
by_test n true x y p q = p
by_test n false x y p q = q

abbrev Next : {A X : Type 0} → ℕ → (X → List ℕ → Result (Piece A) Flaw) → Type 0
Next {X = X} n after = (next : X) (kept : List ℕ) → IsFar (n + 1) (after next kept)

from_next : {A : Type 0} (n : ℕ) (r : Result (Piece A) Flaw) → IsFar (n + 1) r → IsFar n r
from_next n r h = fewer (n + 1) n r (omega arith) h

stepped_far : (s : Step) (phase : Phase) (text : List ℕ) (n b : ℕ) (after : Phase → List ℕ → Result (Piece Lexeme) Flaw) → Next n after → IsFar n (stepped s phase text n b after)
stepped_far (Keep q) phase text n b after h = by_test n (leb (most_of phase) (length text)) (flaw TokenTooLong 0 (n + 1)) (after q (text ++ b ∷ [])) (omega arith) (from_next n _ (h q (text ++ b ∷ [])))
stepped_far (Pass q) phase text n b after h = from_next n _ (h q text)
stepped_far Ends phase text n b after h = (omega arith, omega arith, omega arith)
stepped_far steps.Bad phase text n b after h = omega arith

scan_far : (phase : Phase) (text : List ℕ) (n : ℕ) (bs : List ℕ) → IsFar n (scan_at phase text n bs)
unfolding scan_at
scan_far phase text n [] = by_test n (is_complete phase) (ended phase text n None) (flaw EndOfInput n n) (omega arith, omega arith, omega arith) (omega arith)
scan_far phase text n (b ∷ bs) = stepped_far (next_step phase b) phase text n b (λ q kept. scan_at q kept (n + 1) bs) (λ q kept. scan_far q kept (n + 1) bs)

finished_far : (n : ℕ) (x : Piece Lexeme) (item : Option Item) → IsFar {A = Lexeme} n (Ok x) → IsFar n (finished x item)
finished_far n x None h = h.1
finished_far n x (Some item) h = h

finish_far : (n : ℕ) (r : Result (Piece Lexeme) Flaw) → IsFar n r → IsFar n (r >>= finish)
finish_far n (Ok x) h = finished_far n x (item_of x.value.phase x.value.text) h
finish_far n (Err f) h = h

part_far : (value : List ℕ) (n b : ℕ) (after : Within → List ℕ → Result (Piece (List ℕ)) Flaw) → Next n after → IsFar n (part_by value n b after)
part_far value n b after h =
    by_test n (eqb b 34) (Ok (record { value = value; count = n + 1; seen = n + 1 })) _ (omega arith, omega arith, omega arith)
    (by_test n (eqb b 92) (after Escape value) _ (from_next n _ (h Escape value))
    (by_test n (is_verilog_string_byte b) _ _ (by_test n (is_full value) (flaw TokenTooLong 0 (n + 1)) (after Parts (value ++ b ∷ [])) (omega arith) (from_next n _ (h Parts (value ++ b ∷ [])))) (omega arith)))

escape_far : (e : Escaped) (value : List ℕ) (n : ℕ) (after : Within → List ℕ → Result (Piece (List ℕ)) Flaw) → Next n after → IsFar n (escape_by e value n after)
escape_far (Stands c) value n after h = by_test n (is_full value) (flaw TokenTooLong 0 (n + 1)) (after Parts (value ++ c ∷ [])) (omega arith) (from_next n _ (h Parts (value ++ c ∷ [])))
escape_far (Octal digit) value n after h = from_next n _ (h (Code digit 2) value)
escape_far NoEscape value n after h = omega arith
escape_far NoByte value n after h = omega arith

code_far : (value : List ℕ) (n : ℕ) (rest : Result (Piece (List ℕ)) Flaw) → IsFar n rest → IsFar n (with_code value n rest)
code_far value n rest h = by_test n (is_full value) (flaw TokenTooLong 0 n) rest (omega arith) h

string_far : (m : Within) (value : List ℕ) (n : ℕ) (bs : List ℕ) → IsFar n (string_at m value n bs)
unfolding string_at
string_far Parts value n [] = omega arith
string_far Escape value n [] = omega arith
string_far (Code code left) value n [] = code_far value n (flaw EndOfInput n n) (omega arith)
string_far Parts value n (b ∷ bs) = part_far value n b (λ next kept. string_at next kept (n + 1) bs) (λ next kept. string_far next kept (n + 1) bs)
string_far Escape value n (b ∷ bs) = escape_far (escaped_by b) value n (λ next kept. string_at next kept (n + 1) bs) (λ next kept. string_far next kept (n + 1) bs)
string_far (Code code left) value n (b ∷ bs) =
    by_test n (ltb 0 left && is_octal b) _ _
    (by_test n (ltb 255 (8 * code + (b - 48))) (flaw BadEscape (n - (4 - left)) (n + 1)) (string_at (Code (8 * code + (b - 48)) (left - 1)) value (n + 1) bs) (omega arith)
    (from_next n _ (string_far (Code (8 * code + (b - 48)) (left - 1)) value (n + 1) bs)))
    (code_far value n _ (part_far (value ++ code ∷ []) n b (λ next kept. string_at next kept (n + 1) bs) (λ next kept. string_far next kept (n + 1) bs)))

str_far : (n : ℕ) (r : Result (Piece (List ℕ)) Flaw) → IsFar n r → IsFar n (r >>= str_of)
str_far n (Ok x) h = h
str_far n (Err f) h = h

comment_far : (star : Bool) (n : ℕ) (bs : List ℕ) → IsFar n (comment_at star n bs)
unfolding comment_at
comment_far star n [] = omega arith
comment_far star n (b ∷ bs) =
    by_test n (eqb b 42) _ _ (from_next n _ (comment_far true (n + 1) bs))
    (by_test n (star && eqb b 47) (Ok (record { value = Blank; count = n + 1; seen = n + 1 })) (comment_at false (n + 1) bs) (omega arith, omega arith, omega arith) (from_next n _ (comment_far false (n + 1) bs)))

pair_far : (second : ℕ) (both single : Item) (bs : List ℕ) → IsFar 1 (pair_by second both single (first bs))
pair_far second both single [] = (omega arith, omega arith, omega arith)
pair_far second both single (c ∷ cs) = by_test 1 (eqb c second) (Ok (record { value = both; count = 2; seen = 2 })) (Ok (record { value = single; count = 1; seen = 2 })) (omega arith, omega arith, omega arith) (omega arith, omega arith, omega arith)

slash_far : (bs : List ℕ) → IsFar 1 (slash_by (first bs) (drop 1 bs))
slash_far [] = (omega arith, omega arith, omega arith)
slash_far (c ∷ cs) =
    by_test 1 (eqb c 47) (Ok (record { value = Line; count = 2; seen = 2 })) _ (omega arith, omega arith, omega arith)
    (by_test 1 (eqb c 42) (comment_at false 2 cs) (Ok (record { value = Token (Symbol 47); count = 1; seen = 2 })) (fewer 2 1 _ (omega arith) (comment_far false 2 cs)) (omega arith, omega arith, omega arith))

by_far : (start : Start) (b : ℕ) (bs : List ℕ) → IsFar 1 (item_by start b (b ∷ bs))
by_far starts.White b bs = (omega arith, omega arith, omega arith)
by_far (starts.Lexeme phase) b bs = finish_far 1 (scan_at phase (kept phase b) 1 bs) (scan_far phase (kept phase b) 1 bs)
by_far starts.Quote b bs = str_far 1 (string_at Parts [] 1 bs) (string_far Parts [] 1 bs)
by_far starts.Open b bs = pair_far 42 (both_of pair_starts.Open) (single_of pair_starts.Open) bs
by_far starts.Star b bs = pair_far 41 (both_of pair_starts.Star) (single_of pair_starts.Star) bs
by_far starts.Slash b bs = slash_far bs
by_far starts.Mark b bs = (omega arith, omega arith, omega arith)
by_far starts.Sign b bs = (omega arith, omega arith, omega arith)
by_far starts.Other b bs = omega arith

item_far : (b : ℕ) (bs : List ℕ) → IsFar 1 (item_at b bs)
unfolding item_at
item_far b bs = by_far (start_of b) b bs

-- ---- stops

rises_item : (n : ℕ) (item : Item) (p : Place) (bs : List ℕ) (k count seen : ℕ) (after : ℕ → Ahead VFound) → n ≤ p.offset + 1 → 1 ≤ count → 1 ≤ seen → seen ≤ count + 1 → seen ≤ suc k
    → ((m c : ℕ) → m ≤ p.offset + 1 + (c - 1) + 1 → m ≤ p.offset + 1 + k → Rises stop_of m (after c).tokens (after c).finish) → n ≤ p.offset + 1 + k
    → Rises stop_of n (then_tokens item p bs count seen after).tokens (then_tokens item p bs count seen after).finish
rises_item n Blank p bs k count seen after low some shown near within rest high = rest n count (omega (arith, low)) high
rises_item n Line p bs k count seen after low some shown near within rest high = rest n (with_line count bs) (omega (arith, low)) high
rises_item n (Token token) p bs k count seen after low some shown near within rest high = (omega (arith, low, shown), rest (p.offset + seen) count (omega (arith, near, some)) (omega (arith, within)))

rises_then : (n : ℕ) (p : Place) (bs : List ℕ) (k : ℕ) (r : Result (Piece Item) Flaw) (after : ℕ → Ahead VFound) → n ≤ p.offset + 1 → IsFar 1 r → IsWithin (suc k) r
    → ((m c : ℕ) → m ≤ p.offset + 1 + (c - 1) + 1 → m ≤ p.offset + 1 + k → Rises stop_of m (after c).tokens (after c).finish) → n ≤ p.offset + 1 + k
    → Rises stop_of n (then_items p bs r after).tokens (then_items p bs r after).finish
rises_then n p bs k (Ok piece) after low far within rest high = rises_item n piece.value p bs k piece.count piece.seen after low far.0 far.1 far.2 within.1 rest high
rises_then n p bs k (Err f) after low far within rest high = omega (arith, low, far)

rises_from : (n : ℕ) (skipped : ℕ) (p : Place) (bs : List ℕ) → n ≤ p.offset + skipped + 1 → n ≤ p.offset + length bs → Rises stop_of n (tokens_from skipped p bs).tokens (tokens_from skipped p bs).finish
unfolding tokens_from
rises_from n zero p [] low high = (omega (arith, high), refl, refl)
rises_from n (suc k) p [] low high = (omega (arith, high), refl, refl)
rises_from n (suc k) p (b ∷ bs) low high = rises_from n k (place_after p b) bs (omega (arith, low)) (omega (arith, high))
rises_from n zero p (b ∷ bs) low high =
    rises_then n p (b ∷ bs) (length bs) (item_at b bs) (λ count. tokens_from (count - 1) (place_after p b) bs) (omega (arith, low)) (item_far b bs) (item_within b bs)
    (λ m c l h. rises_from m (c - 1) (place_after p b) bs (omega (arith, l)) (omega (arith, h))) (omega (arith, high))

-- the stops of the tokens of a text rise
pub rises : (text : List ℕ) → Rises stop_of 0 (all_tokens text).tokens (all_tokens text).finish
rises text = rises_from 0 0 place_at_start text (omega arith) (omega arith)
