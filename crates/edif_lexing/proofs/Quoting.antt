-- What is written of a string is read as that string.
use Rattle.std.proofs.Common.{◌≡◌, ℕ, suc, ◌+◌, ◌-◌, ◌*◌, ◌<◌, ◌≤◌, ◌/◌, ◌%◌, Bool, true, false, eqb, List, [], ◌∷◌, ◌++◌, length, refl, sym, ap, subst, ◌∙◌, arith, length-append, append_assoc, append-nil}
use Rattle.std.specs.Prelude.{decimal}
use Rattle.std.specs.Char.{is_ascii_digit}
use Rattle.std.specs.List.{AllByRecursion}
use Rattle.std.proofs.lemmas.Bool.{lt-leb, le-ltb}
use Rattle.std.proofs.lemmas.Bool.Decides.{nat_tests}
use Rattle.std.proofs.lemmas.Fmt.{decimal_by_steps}
use Rattle.nl_bytes.specs.Classes.{is_space, is_string_byte}
use Rattle.edif_values.specs.declared.token.Token.{Token}
use Rattle.edif_values.specs.declared.token.Token.TheVariants as t
use Rattle.edif_tokens.specs.Spelling.{token_at}
use Rattle.edif_tokens.specs.Strings.{Within, Escape, Code, string_at, is_full}
use Rattle.edif_tokens.specs.Strings as within
use Rattle.edif_values.specs.Proper.{IsProper}
use Rattle.edif_writer.specs.Strings.{is_plain, quoted, written}
use Rattle.edif_lexing.specs.Lexing.{Lexes}
use Rattle.edif_lexing.proofs.Lexing.{piece, lexes_token}

-- what is written of a string's rest, and its end
abbrev spelled : Bool → List ℕ → List ℕ
spelled open_ s = written open_ s []

-- what follows a string stands behind its end
written_then : (e : Bool) (s rest : List ℕ) → written e s rest ≡ spelled e s ++ rest
unfolding written
written_then false [] rest = refl
written_then true [] rest = refl
written_then e (b ∷ bs) rest = by_byte e (is_plain b) refl (written_then false bs rest) (written_then true bs rest)
  where
    by_byte : (e w : Bool) → is_plain b ≡ w → written false bs rest ≡ spelled false bs ++ rest → written true bs rest ≡ spelled true bs ++ rest → written e (b ∷ bs) rest ≡ spelled e (b ∷ bs) ++ rest
    by_byte false true h plain coded = rw h (ap (λ (z : List ℕ). b ∷ z) plain)
    by_byte true true h plain coded = rw h (ap (λ (z : List ℕ). 37 ∷ b ∷ z) plain)
    by_byte false false h plain coded = rw h (ap (λ (z : List ℕ). 37 ∷ (decimal b ++ z)) coded ∙ ap (λ (z : List ℕ). 37 ∷ z) (sym (append_assoc (decimal b) (spelled true bs) rest)))
    by_byte true false h plain coded = rw h (ap (λ (z : List ℕ). 32 ∷ (decimal b ++ z)) coded ∙ ap (λ (z : List ℕ). 32 ∷ z) (sym (append_assoc (decimal b) (spelled true bs) rest)))

code-digit : (start code n b : ℕ) (v rest : List ℕ) → is_ascii_digit b ≡ true → 10 * code + (b - 48) ≤ 255
    → string_at (Code start code) v n (b ∷ rest) ≡ string_at (Code start (10 * code + (b - 48))) v (n + 1) rest
unfolding string_at
code-digit start code n b v rest digit le = rw (digit, le-ltb 255 (10 * code + (b - 48)) le) refl

not_full : (v : List ℕ) → length v < 1048576 → is_full v ≡ false
not_full v h = lt-leb 1048576 (length v) h

is_digit : (d : ℕ) → d < 10 → (is_ascii_digit (48 + d) ≡ true) × (is_space (48 + d) ≡ false)
is_digit d h = (grind (arith, nat_tests), grind (arith, nat_tests))

stands : (b : ℕ) → is_plain b ≡ true → (eqb b 34 ≡ false) × (eqb b 37 ≡ false) × (is_string_byte b ≡ true)
unfolding is_plain
stands b h = (grind (arith, nat_tests), grind (arith, nat_tests), grind (arith, nat_tests))

plain_byte : (b n : ℕ) (v rest : List ℕ) → is_plain b ≡ true → length v < 1048576 → string_at within.Parts v n (b ∷ rest) ≡ string_at within.Parts (v ++ b ∷ []) (n + 1) rest
unfolding string_at
plain_byte b n v rest h small = let s = stands b h in rw (s.2, s.0, s.1, not_full v small) refl

opens : (n : ℕ) (v rest : List ℕ) → string_at within.Parts v n (37 ∷ rest) ≡ string_at (Escape n false) v (n + 1) rest
unfolding string_at
opens n v rest = refl

next_code : (start code n : ℕ) (v rest : List ℕ) → length v < 1048576 → string_at (Code start code) v n (32 ∷ rest) ≡ string_at (Escape start true) (v ++ code ∷ []) (n + 1) rest
unfolding string_at
next_code start code n v rest small = rw (not_full v small) refl

shuts : (start code n : ℕ) (v rest : List ℕ) → length v < 1048576 → string_at (Code start code) v n (37 ∷ rest) ≡ string_at within.Parts (v ++ code ∷ []) (n + 1) rest
unfolding string_at
shuts start code n v rest small = rw (not_full v small) refl

quote_ends : (n : ℕ) (v rest : List ℕ) → string_at within.Parts v n (34 ∷ rest) ≡ piece v (n + 1) (n + 1)
unfolding string_at
quote_ends n v rest = refl

first_digit : (start n d : ℕ) (coded : Bool) (v rest : List ℕ) → d < 10 → string_at (Escape start coded) v n ((48 + d) ∷ rest) ≡ string_at (Code start d) v (n + 1) rest
unfolding string_at
first_digit start n d coded v rest small =
    let k = is_digit d small in
    let same : 48 + d - 48 ≡ d = omega arith in
    rw (k.1, k.0) (ap (λ (c : ℕ). string_at (Code start c) v (n + 1) rest) same)

-- the digits of a code
abbrev ReadsCode : ℕ → List ℕ → Type 0
ReadsCode m ds = m < 256 → (start n : ℕ) (coded : Bool) (v rest : List ℕ) → string_at (Escape start coded) v n (ds ++ rest) ≡ string_at (Code start m) v (n + length ds) rest

more_digits : (m : ℕ) (ds : List ℕ) → 10 ≤ m → ReadsCode (m / 10) ds → ReadsCode m (ds ++ (48 + m % 10) ∷ [])
more_digits m ds l h small start n coded v rest =
    let d : ℕ = 48 + m % 10 in
    let same : 10 * (m / 10) + (d - 48) ≡ m = omega arith in
    ap (string_at (Escape start coded) v n) (append_assoc ds (d ∷ []) rest) ∙ h (omega arith) start n coded v (d ∷ rest)
    ∙ code-digit start (m / 10) (n + length ds) d v rest (is_digit (m % 10) (omega arith)).0 (omega arith)
    ∙ ap (λ (c : ℕ). string_at (Code start c) v (n + length ds + 1) rest) same
    ∙ ap (λ (k : ℕ). string_at (Code start m) v k rest) (omega (arith, length-append ds (d ∷ [])))

code_read : (m : ℕ) → m < 256 → ReadsCode m (decimal m)
code_read m small = decimal_by_steps ReadsCode (λ d l s start n coded v rest. first_digit start n d coded v rest l) more_digits m (omega arith)

-- what is written of a string's rest: among its parts, and behind a code that is not ended yet
abbrev ReadsOn : List ℕ → List ℕ → Type 0
ReadsOn s rest =
    ((v : List ℕ) (n : ℕ) → length v + length s ≤ 1048576 → string_at within.Parts v n (spelled false s ++ rest) ≡ piece (v ++ s) (n + length (spelled false s)) (n + length (spelled false s)))
    × ((v : List ℕ) (n start code : ℕ) → length v + suc (length s) ≤ 1048576 → string_at (Code start code) v n (spelled true s ++ rest) ≡ piece (v ++ code ∷ s) (n + length (spelled true s)) (n + length (spelled true s)))

same_piece : (v w : List ℕ) (m n : ℕ) → v ≡ w → m ≡ n → piece v m m ≡ piece w n n
same_piece v w m n e f = cc

push : (v : List ℕ) (b : ℕ) (s : List ℕ) → (v ++ b ∷ []) ++ s ≡ v ++ b ∷ s
push v b s = append_assoc v (b ∷ []) s

step : (b : ℕ) (s rest : List ℕ) → b < 256 → ReadsOn s rest → (w : Bool) → is_plain b ≡ w → ReadsOn (b ∷ s) rest
unfolding written
step b s rest small on true w =
    let plain : (v : List ℕ) (n : ℕ) → length v + suc (length s) ≤ 1048576 → string_at within.Parts v n (b ∷ (spelled false s ++ rest)) ≡ piece (v ++ b ∷ s) (n + suc (length (spelled false s))) (n + suc (length (spelled false s))) =
    λ v n le. plain_byte b n v (spelled false s ++ rest) w (omega arith) ∙ on.0 (v ++ b ∷ []) (n + 1) (omega (arith, length-append v (b ∷ []))) ∙ same_piece _ _ _ _ (push v b s) (omega arith) in
    rw w (plain, λ v n start code le. shuts start code n v (b ∷ (spelled false s ++ rest)) (omega arith) ∙ plain (v ++ code ∷ []) (n + 1) (omega (arith, length-append v (code ∷ []))) ∙ same_piece _ _ _ _ (push v code (b ∷ s)) (omega arith))
step b s rest small on false w =
    let coded : (v : List ℕ) (n start : ℕ) (c : Bool) → length v + suc (length s) ≤ 1048576 → string_at (Escape start c) v n ((decimal b ++ spelled true s) ++ rest) ≡ piece (v ++ b ∷ s) (n + length (decimal b ++ spelled true s)) (n + length (decimal b ++ spelled true s)) =
    λ v n start c le. ap (string_at (Escape start c) v n) (append_assoc (decimal b) (spelled true s) rest) ∙ code_read b small small start n c v (spelled true s ++ rest)
    ∙ on.1 v (n + length (decimal b)) start b le ∙ same_piece _ _ _ _ refl (omega (arith, length-append (decimal b) (spelled true s))) in
    rw w (
      λ v n le. opens n v ((decimal b ++ spelled true s) ++ rest) ∙ coded v (n + 1) n false le ∙ same_piece _ _ _ _ refl (omega arith),
      λ v n start code le. next_code start code n v ((decimal b ++ spelled true s) ++ rest) (omega arith) ∙ coded (v ++ code ∷ []) (n + 1) start true (omega (arith, length-append v (code ∷ []))) ∙ same_piece _ _ _ _ (push v code (b ∷ s)) (omega arith),
    )

reads_on : (s rest : List ℕ) → AllByRecursion (λ b. b < 256) s → ReadsOn s rest
unfolding written
reads_on [] rest all = (
  λ v n le. quote_ends n v rest ∙ same_piece _ _ _ _ (sym (append-nil v)) (omega arith),
  λ v n start code le. shuts start code n v (34 ∷ rest) (omega arith) ∙ quote_ends (n + 1) (v ++ code ∷ []) rest ∙ same_piece _ _ _ _ refl (omega arith),
)
reads_on (b ∷ s) rest all = step b s rest all.0 (reads_on s rest all.1) (is_plain b) refl

pub lexes_string : (s rest : List ℕ) (ts : List Token) → IsProper (t.Str s) → Lexes rest ts → Lexes (quoted s rest) (t.Str s ∷ ts)
unfolding token_at
lexes_string s rest ts good l =
    let r = (reads_on s rest good.0).0 [] 1 (omega (arith, good.1)) in
    let plain : Lexes (34 ∷ (spelled false s ++ rest)) (t.Str s ∷ ts) = lexes_token 34 (spelled false s) rest (t.Str s) (1 + length (spelled false s)) ts refl (rw r (same _ _ (omega arith))) l in
    subst (λ (z : List ℕ). Lexes (34 ∷ z) (t.Str s ∷ ts)) (sym (written_then false s rest)) plain
  where
    same : (m n : ℕ) → m ≡ n → piece (t.Str s) m m ≡ piece (t.Str s) n m
    same m n e = cc
