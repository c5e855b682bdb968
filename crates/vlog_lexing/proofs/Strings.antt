-- What is written of a string is read as that string.
use Rattle.std.proofs.Common.{◌≡◌, ℕ, suc, ◌+◌, ◌-◌, ◌*◌, ◌<◌, ◌≤◌, ◌/◌, ◌%◌, Bool, true, false, List, [], ◌∷◌, ◌++◌, length, refl, sym, ap, subst, ◌∙◌, arith, length-append, append_assoc, append-nil}
use Rattle.std.specs.Prelude.{◌||◌, ◌&&◌, ◌==◌, not, nat_lt, nat_le, if◌then◌else◌}
use Rattle.std.specs.List.{AllByRecursion}
use Rattle.std.proofs.lemmas.Bool.{lt-leb, le-ltb, eqb-true}
use Rattle.std.proofs.lemmas.Bool.Decides.{nat_tests}
use Rattle.nl_bytes.specs.Classes.{is_verilog_string_byte}
use Rattle.vlog_values.specs.Values.{IsString}
use Rattle.vlog_tokens.specs.declared.item.Item.TheVariants.{Token}
use Rattle.vlog_tokens.specs.declared.string.Escaped.TheVariants.{Stands, Octal}
use Rattle.vlog_tokens.specs.declared.token.VToken.{VToken}
use Rattle.vlog_tokens.specs.declared.token.VToken.TheVariants as t
use Rattle.vlog_tokens.specs.Spelling.{item_at}
use Rattle.vlog_tokens.specs.Strings.{Within, Parts, Escape, Code, string_at, escaped_by, is_full, is_octal}
use Rattle.vlog_writer.specs.Spelling.{escape_of, is_plain, octal, string_byte, written, quoted}
use Rattle.vlog_lexing.specs.Lexing.{Lexes}
use Rattle.vlog_lexing.proofs.Scanning.{piece, lexes_token}

not_full : (v : List ℕ) → length v < 1048576 → is_full v ≡ false
not_full v h = lt-leb 1048576 (length v) h

-- some bytes of a string are read as the byte b
abbrev ReadsByte : List ℕ → ℕ → Type 0
ReadsByte bs b = (v rest : List ℕ) (n : ℕ) → length v < 1048576 → string_at Parts v n (bs ++ rest) ≡ string_at Parts (v ++ b ∷ []) (n + length bs) rest

-- ---- bytes that stand for themselves

stands : (b : ℕ) → is_plain b ≡ true → ((b == 34) ≡ false) × ((b == 92) ≡ false) × (is_verilog_string_byte b ≡ true)
unfolding is_plain
stands b h = (grind (arith, nat_tests), grind (arith, nat_tests), grind (arith, nat_tests))

plain_byte : (b : ℕ) → is_plain b ≡ true → ReadsByte (b ∷ []) b
unfolding string_at
plain_byte b h v rest n small = let s = stands b h in rw (s.2, s.0, s.1, not_full v small) refl

-- ---- escapes

behind_mark : (v rest : List ℕ) (n : ℕ) → string_at Parts v n (92 ∷ rest) ≡ string_at Escape v (n + 1) rest
unfolding string_at
behind_mark v rest n = refl

-- a byte behind the `\` that stands for a byte
sign_byte : (c b : ℕ) → escaped_by c ≡ Stands b → ReadsByte (92 ∷ c ∷ []) b
unfolding string_at
sign_byte c b e v rest n small = rw (e, not_full v small) (ap (λ (k : ℕ). string_at Parts (v ++ b ∷ []) k rest) (omega arith))

octal_digit : (q : ℕ) → q < 8 → (escaped_by (48 + q) ≡ Octal q) × (is_octal (48 + q) ≡ true) × (48 + q - 48 ≡ q)
octal_digit q h = (grind (arith, nat_tests), grind (arith, nat_tests), omega arith)

first_octal : (q n : ℕ) (v rest : List ℕ) → q < 8 → string_at Escape v n ((48 + q) ∷ rest) ≡ string_at (Code q 2) v (n + 1) rest
unfolding string_at
first_octal q n v rest h = rw (octal_digit q h).0 refl

next_octal : (code more q n : ℕ) (v rest : List ℕ) → q < 8 → 8 * code + q ≤ 255 → string_at (Code code (suc more)) v n ((48 + q) ∷ rest) ≡ string_at (Code (8 * code + q) more) v (n + 1) rest
unfolding string_at
next_octal code more q n v rest h le =
    let d = octal_digit q h in
    let some : nat_lt 0 (suc more) ≡ true = grind (arith, nat_tests) in
    let less : suc more - 1 ≡ more = omega arith in
    rw (some, d.1, d.2, le-ltb 255 (8 * code + q) le, less) refl

-- a code with all its digits
code_done : (code n : ℕ) (v rest : List ℕ) → length v < 1048576 → string_at (Code code 0) v n rest ≡ string_at Parts (v ++ code ∷ []) n rest
unfolding string_at
code_done code n v [] small = rw (not_full v small) refl
code_done code n v (c ∷ cs) small = rw (not_full v small) refl

octal_byte : (b : ℕ) → b < 256 → ReadsByte (92 ∷ octal b) b
octal_byte b small v rest n room =
    let high : b / 64 < 8 = omega (arith, small) in
    let middle : b / 8 % 8 < 8 = omega arith in
    let low : b % 8 < 8 = omega arith in
    let two : 8 * (b / 64) + b / 8 % 8 ≡ b / 8 = omega (arith, small) in
    let three : 8 * (b / 8) + b % 8 ≡ b = omega arith in
    behind_mark v (octal b ++ rest) n
    ∙ first_octal (b / 64) (n + 1) v ((48 + b / 8 % 8) ∷ (48 + b % 8) ∷ rest) high
    ∙ next_octal (b / 64) 1 (b / 8 % 8) (n + 1 + 1) v ((48 + b % 8) ∷ rest) middle (omega (arith, two, small))
    ∙ ap (λ (code : ℕ). string_at (Code code 1) v (n + 1 + 1 + 1) ((48 + b % 8) ∷ rest)) two
    ∙ next_octal (b / 8) 0 (b % 8) (n + 1 + 1 + 1) v rest low (omega (arith, three, small))
    ∙ ap (λ (code : ℕ). string_at (Code code 0) v (n + 1 + 1 + 1 + 1) rest) three
    ∙ code_done b (n + 1 + 1 + 1 + 1) v rest room
    ∙ ap (λ (k : ℕ). string_at Parts (v ++ b ∷ []) k rest) (omega arith)

itself : (b : ℕ) → (b == 34 || b == 92) ≡ true → escaped_by b ≡ Stands b
itself b h = grind (arith, nat_tests)

-- ---- strings

read_byte : (b : ℕ) → b < 256 → ReadsByte (string_byte b) b
unfolding string_byte
read_byte b small = by_plain (is_plain b) refl
  where
    by_tab : (w : Bool) → (b == 9) ≡ w → ReadsByte (92 ∷ (if w then 116 ∷ [] else octal b)) b
    by_tab true e = rw (eqb-true b 9 e) (sign_byte 116 9 refl)
    by_tab false e = octal_byte b small

    by_line : (w : Bool) → (b == 10) ≡ w → ReadsByte (92 ∷ (if w then 110 ∷ [] else (if b == 9 then 116 ∷ [] else octal b))) b
    by_line true e = rw (eqb-true b 10 e) (sign_byte 110 10 refl)
    by_line false e = by_tab (b == 9) refl

    by_itself : (w : Bool) → (b == 34 || b == 92) ≡ w → ReadsByte (92 ∷ (if w then b ∷ [] else (if b == 10 then 110 ∷ [] else (if b == 9 then 116 ∷ [] else octal b)))) b
    by_itself true e = sign_byte b b (itself b e)
    by_itself false e = by_line (b == 10) refl

    by_plain : (w : Bool) → is_plain b ≡ w → ReadsByte (if is_plain b then b ∷ [] else 92 ∷ escape_of b) b
    by_plain true e = rw e (plain_byte b e)
    by_plain false e = rw e (by_itself (b == 34 || b == 92) refl)

-- what follows a string stands behind its end
written_then : (s rest : List ℕ) → written s rest ≡ written s [] ++ rest
written_then [] rest = refl
written_then (b ∷ bs) rest = ap (λ (z : List ℕ). string_byte b ++ z) (written_then bs rest) ∙ sym (append_assoc (string_byte b) (written bs []) rest)

quote_ends : (v rest : List ℕ) (n : ℕ) → string_at Parts v n (34 ∷ rest) ≡ piece v (n + 1) (n + 1)
unfolding string_at
quote_ends v rest n = refl

same_piece : (v w : List ℕ) (m n : ℕ) → v ≡ w → m ≡ n → piece v m m ≡ piece w n n
same_piece v w m n e f = cc

reads_on : (s v rest : List ℕ) (n : ℕ) → AllByRecursion (λ b. b < 256) s → length v + length s ≤ 1048576
    → string_at Parts v n (written s [] ++ rest) ≡ piece (v ++ s) (n + length (written s [])) (n + length (written s []))
reads_on [] v rest n all short = quote_ends v rest n ∙ same_piece _ _ _ _ (sym (append-nil v)) refl
reads_on (b ∷ s) v rest n all short =
    ap (string_at Parts v n) (append_assoc (string_byte b) (written s []) rest)
    ∙ read_byte b all.0 v (written s [] ++ rest) n (omega (arith, short))
    ∙ reads_on s (v ++ b ∷ []) rest (n + length (string_byte b)) all.1 (omega (arith, short, length-append v (b ∷ [])))
    ∙ same_piece _ _ _ _ (append_assoc v (b ∷ []) s) (omega (arith, length-append (string_byte b) (written s [])))

pub lexes_string : (s rest : List ℕ) (ts : List VToken) → IsString s → Lexes rest ts → Lexes (quoted s rest) (t.Str s ∷ ts)
unfolding item_at
lexes_string s rest ts good l =
    let r = reads_on s [] rest 1 good.bytes (omega (arith, good.short)) in
    let plain : Lexes (34 ∷ (written s [] ++ rest)) (t.Str s ∷ ts) =
    lexes_token 34 (written s []) rest (t.Str s) (1 + length (written s [])) (1 + length (written s [])) ts (rw r refl) (omega arith) l in
    subst (λ (z : List ℕ). Lexes (34 ∷ z) (t.Str s ∷ ts)) (sym (written_then s rest)) plain
