-- No more has to be read than there is.
use Rattle.std.proofs.Common.{ℕ, suc, ◌+◌, ◌-◌, ◌*◌, ◌≤◌, Bool, true, false, cond, leb, ltb, eqb, ◌&&◌, List, [], ◌∷◌, ◌++◌, length, drop, Option, Some, None, Result, Ok, Err, arith}
use Rattle.nl_base.specs.declared.fault.Reason.TheVariants.{EndOfInput, BadEscape, TokenTooLong}
use Rattle.nl_bytes.specs.Bytes.{first}
use Rattle.nl_bytes.specs.Classes.{is_verilog_string_byte}
use Rattle.vlog_tokens.specs.declared.item.Item.{Item}
use Rattle.vlog_tokens.specs.declared.item.Item.TheVariants.{Blank, Line, Token}
use Rattle.vlog_tokens.specs.declared.token.VToken.TheVariants.{Symbol}
use Rattle.vlog_tokens.specs.declared.phase.Phase.{Phase}
use Rattle.vlog_tokens.specs.declared.phase.Step.{Step}
use Rattle.vlog_tokens.specs.declared.phase.Step.TheVariants.{Keep, Pass, Ends, Bad}
use Rattle.vlog_tokens.specs.declared.start.Start.{Start}
use Rattle.vlog_tokens.specs.declared.start.Start.TheVariants as starts
use Rattle.vlog_tokens.specs.declared.mark.PairStart.TheVariants as pair_starts
use Rattle.vlog_tokens.specs.declared.string.Escaped.{Escaped}
use Rattle.vlog_tokens.specs.declared.string.Escaped.TheVariants.{Stands, Octal, NoEscape, NoByte}
use Rattle.nl_bytes.specs.Flaws.{Piece, Flaw, flaw, ◌>>=◌}
use Rattle.vlog_tokens.specs.Phases.{next_step, is_complete, most_of}
use Rattle.vlog_tokens.specs.Scanning.{Lexeme, scan_at, stepped, ended, kept}
use Rattle.vlog_tokens.specs.Items.{finish, finished, item_of}
use Rattle.vlog_tokens.specs.Strings.{Within, Parts, Escape, Code, is_octal, escaped_by, is_full, part_by, escape_by, with_code, string_at}
use Rattle.vlog_tokens.specs.Spelling.{pair_by, both_of, single_of, slash_by, comment_at, str_of, item_by, start_of, item_at}

-- a piece and what shows its end lie within so many bytes
abbrev pub IsWithin : {A : Type 0} → ℕ → Result (Piece A) Flaw → Type 0
IsWithin n (Ok piece) = (piece.count ≤ n) × (piece.seen ≤ n)
IsWithin n (Err f) = f.seen ≤ n

more : {A : Type 0} (m n : ℕ) (r : Result (Piece A) Flaw) → m ≤ n → IsWithin m r → IsWithin n r
more m n (Ok piece) le h = (omega (arith, h.0), omega (arith, h.1))
more m n (Err f) le h = omega (arith, h)

by_test : {A : Type 0} (n : ℕ) (t : Bool) (x y : Result (Piece A) Flaw) → IsWithin n x → IsWithin n y → IsWithin n (cond t x y)
by_test n true x y p q = p
by_test n false x y p q = q

abbrev Next : {A X : Type 0} → ℕ → ℕ → (X → List ℕ → Result (Piece A) Flaw) → Type 0
Next {X = X} n k after = (next : X) (kept : List ℕ) → IsWithin (n + 1 + k) (after next kept)

from_next : {A : Type 0} (n k : ℕ) (r : Result (Piece A) Flaw) → IsWithin (n + 1 + k) r → IsWithin (n + suc k) r
from_next n k r h = more (n + 1 + k) (n + suc k) r (omega arith) h

stepped_within : (s : Step) (phase : Phase) (text : List ℕ) (n b k : ℕ) (after : Phase → List ℕ → Result (Piece Lexeme) Flaw) → Next n k after → IsWithin (n + suc k) (stepped s phase text n b after)
stepped_within (Keep q) phase text n b k after h = by_test (n + suc k) (leb (most_of phase) (length text)) (flaw TokenTooLong 0 (n + 1)) (after q (text ++ b ∷ [])) (omega arith) (from_next n k _ (h q (text ++ b ∷ [])))
stepped_within (Pass q) phase text n b k after h = from_next n k _ (h q text)
stepped_within Ends phase text n b k after h = (omega arith, omega arith)
stepped_within Bad phase text n b k after h = omega arith

scan_within : (phase : Phase) (text : List ℕ) (n : ℕ) (bs : List ℕ) → IsWithin (n + length bs) (scan_at phase text n bs)
unfolding scan_at
scan_within phase text n [] = by_test (n + 0) (is_complete phase) (ended phase text n None) (flaw EndOfInput n n) (omega arith, omega arith) (omega arith)
scan_within phase text n (b ∷ bs) = stepped_within (next_step phase b) phase text n b (length bs) (λ q kept. scan_at q kept (n + 1) bs) (λ q kept. scan_within q kept (n + 1) bs)

finished_within : (n : ℕ) (x : Piece Lexeme) (item : Option Item) → IsWithin {A = Lexeme} n (Ok x) → IsWithin n (finished x item)
finished_within n x None h = h.1
finished_within n x (Some item) h = h

finish_within : (n : ℕ) (r : Result (Piece Lexeme) Flaw) → IsWithin n r → IsWithin n (r >>= finish)
finish_within n (Ok x) h = finished_within n x (item_of x.value.phase x.value.text) h
finish_within n (Err f) h = h

part_within : (value : List ℕ) (n b k : ℕ) (after : Within → List ℕ → Result (Piece (List ℕ)) Flaw) → Next n k after → IsWithin (n + suc k) (part_by value n b after)
part_within value n b k after h =
    by_test (n + suc k) (eqb b 34) (Ok (record { value = value; count = n + 1; seen = n + 1 })) _ (omega arith, omega arith)
    (by_test (n + suc k) (eqb b 92) (after Escape value) _ (from_next n k _ (h Escape value))
    (by_test (n + suc k) (is_verilog_string_byte b) _ _ (by_test (n + suc k) (is_full value) (flaw TokenTooLong 0 (n + 1)) (after Parts (value ++ b ∷ [])) (omega arith) (from_next n k _ (h Parts (value ++ b ∷ [])))) (omega arith)))

escape_within : (e : Escaped) (value : List ℕ) (n k : ℕ) (after : Within → List ℕ → Result (Piece (List ℕ)) Flaw) → Next n k after → IsWithin (n + suc k) (escape_by e value n after)
escape_within (Stands c) value n k after h = by_test (n + suc k) (is_full value) (flaw TokenTooLong 0 (n + 1)) (after Parts (value ++ c ∷ [])) (omega arith) (from_next n k _ (h Parts (value ++ c ∷ [])))
escape_within (Octal digit) value n k after h = from_next n k _ (h (Code digit 2) value)
escape_within NoEscape value n k after h = omega arith
escape_within NoByte value n k after h = omega arith

code_within : (value : List ℕ) (n m : ℕ) (rest : Result (Piece (List ℕ)) Flaw) → n ≤ m → IsWithin m rest → IsWithin m (with_code value n rest)
code_within value n m rest le h = by_test m (is_full value) (flaw TokenTooLong 0 n) rest le h

string_within : (m : Within) (value : List ℕ) (n : ℕ) (bs : List ℕ) → IsWithin (n + length bs) (string_at m value n bs)
unfolding string_at
string_within Parts value n [] = omega arith
string_within Escape value n [] = omega arith
string_within (Code code left) value n [] = code_within value n (n + 0) (flaw EndOfInput n n) (omega arith) (omega arith)
string_within Parts value n (b ∷ bs) = part_within value n b (length bs) (λ next kept. string_at next kept (n + 1) bs) (λ next kept. string_within next kept (n + 1) bs)
string_within Escape value n (b ∷ bs) = escape_within (escaped_by b) value n (length bs) (λ next kept. string_at next kept (n + 1) bs) (λ next kept. string_within next kept (n + 1) bs)
string_within (Code code left) value n (b ∷ bs) =
    by_test (n + suc (length bs)) (ltb 0 left && is_octal b) _ _
    (by_test (n + suc (length bs)) (ltb 255 (8 * code + (b - 48))) (flaw BadEscape (n - (4 - left)) (n + 1)) (string_at (Code (8 * code + (b - 48)) (left - 1)) value (n + 1) bs) (omega arith)
    (from_next n (length bs) _ (string_within (Code (8 * code + (b - 48)) (left - 1)) value (n + 1) bs)))
    (code_within value n (n + suc (length bs)) _ (omega arith) (part_within (value ++ code ∷ []) n b (length bs) (λ next kept. string_at next kept (n + 1) bs) (λ next kept. string_within next kept (n + 1) bs)))

str_within : (n : ℕ) (r : Result (Piece (List ℕ)) Flaw) → IsWithin n r → IsWithin n (r >>= str_of)
str_within n (Ok x) h = h
str_within n (Err f) h = h

comment_within : (star : Bool) (n : ℕ) (bs : List ℕ) → IsWithin (n + length bs) (comment_at star n bs)
unfolding comment_at
comment_within star n [] = omega arith
comment_within star n (b ∷ bs) =
    by_test (n + suc (length bs)) (eqb b 42) _ _ (from_next n (length bs) _ (comment_within true (n + 1) bs))
    (by_test (n + suc (length bs)) (star && eqb b 47) (Ok (record { value = Blank; count = n + 1; seen = n + 1 })) (comment_at false (n + 1) bs) (omega arith, omega arith) (from_next n (length bs) _ (comment_within false (n + 1) bs)))

pair_within : (second : ℕ) (both single : Item) (bs : List ℕ) → IsWithin (suc (length bs)) (pair_by second both single (first bs))
pair_within second both single [] = (omega arith, omega arith)
pair_within second both single (c ∷ cs) = by_test (suc (suc (length cs))) (eqb c second) (Ok (record { value = both; count = 2; seen = 2 })) (Ok (record { value = single; count = 1; seen = 2 })) (omega arith, omega arith) (omega arith, omega arith)

slash_within : (bs : List ℕ) → IsWithin (suc (length bs)) (slash_by (first bs) (drop 1 bs))
slash_within [] = (omega arith, omega arith)
slash_within (c ∷ cs) =
    by_test (suc (suc (length cs))) (eqb c 47) (Ok (record { value = Line; count = 2; seen = 2 })) _ (omega arith, omega arith)
    (by_test (suc (suc (length cs))) (eqb c 42) (comment_at false 2 cs) (Ok (record { value = Token (Symbol 47); count = 1; seen = 2 })) (more (2 + length cs) (suc (suc (length cs))) _ (omega arith) (comment_within false 2 cs)) (omega arith, omega arith))

one_more : (k : ℕ) → 1 + k ≤ suc k
one_more k = omega arith

by_within : (start : Start) (b : ℕ) (bs : List ℕ) → IsWithin (suc (length bs)) (item_by start b (b ∷ bs))
by_within starts.White b bs = (omega arith, omega arith)
by_within (starts.Lexeme phase) b bs = finish_within (suc (length bs)) (scan_at phase (kept phase b) 1 bs) (more (1 + length bs) (suc (length bs)) _ (one_more (length bs)) (scan_within phase (kept phase b) 1 bs))
by_within starts.Quote b bs = str_within (suc (length bs)) (string_at Parts [] 1 bs) (more (1 + length bs) (suc (length bs)) _ (one_more (length bs)) (string_within Parts [] 1 bs))
by_within starts.Open b bs = pair_within 42 (both_of pair_starts.Open) (single_of pair_starts.Open) bs
by_within starts.Star b bs = pair_within 41 (both_of pair_starts.Star) (single_of pair_starts.Star) bs
by_within starts.Slash b bs = slash_within bs
by_within starts.Mark b bs = (omega arith, omega arith)
by_within starts.Sign b bs = (omega arith, omega arith)
by_within starts.Other b bs = omega arith

-- what stands at the front of some bytes lies within them
pub item_within : (b : ℕ) (bs : List ℕ) → IsWithin (suc (length bs)) (item_at b bs)
unfolding item_at
item_within b bs = by_within (start_of b) b bs
