-- What the bytes of parts, codes and fronts of strings make of the reader of a string.
use Rattle.std.proofs.Common.{◌≡◌, ℕ, ◌+◌, ◌-◌, ◌*◌, ◌<◌, ◌≤◌, Bool, true, false, cond, eqb, List, [], ◌∷◌, ◌++◌, length, Result, Ok, IsTrue, refl, sym, ap, ◌∙◌, subst, inl, inr, arith, length-append, append_assoc, append-nil}
use Rattle.std.specs.Prelude.{◌⊎◌, fold}
use Rattle.std.specs.Char.{is_ascii_digit}
use Rattle.std.specs.List.{AllByRecursion}
use Rattle.std.proofs.lemmas.Bool.{le-ltb, leb-true}
use Rattle.std.proofs.lemmas.Bool.Decides.{nat_tests}
use Rattle.nl_base.specs.declared.fault.Reason.TheVariants.{TokenTooLong}
use Rattle.nl_bytes.specs.Classes.{is_space, is_string_byte}
use Rattle.nl_bytes.specs.Flaws.{Piece, Flaw, flaw}
use Rattle.edif_tokens.specs.Strings.{Within, string_at, is_full}
use Rattle.edif_tokens.specs.Strings as within
use Rattle.edif_tokens.specs.Spelling.{decimal_value}
use Rattle.edif_lexemes.specs.Strings.{MOST, AreWhite, AreDigits, Code, code_bytes, code_value, IsCode, AreCodes, codes_bytes, codes_value, Part, Plain, Escaped, IsPart, part_bytes, part_value, AreParts, parts_bytes, parts_value, is_some, IsApart, Front, Between, Escaping, Coding, IsFront, front_bytes}

abbrev pub Spelled : Type 0
Spelled = Result (Piece (List ℕ)) Flaw

-- two answers are the same, unless `w` has too many bytes and the first is no piece
abbrev pub Outcome : Spelled → Spelled → List ℕ → Type 0
Outcome x y w = (x ≡ y) ⊎ ((MOST < length w) × ((piece : Piece (List ℕ)) → x ≡ Ok piece → ⊥))

outcome_trans : (x y z : Spelled) (v w : List ℕ) → length v ≤ length w → Outcome x y v → Outcome y z w → Outcome x z w
outcome_trans x y z v w le (inl e) (inl f) = inl (e ∙ f)
outcome_trans x y z v w le (inl e) (inr late) = inr (late.0, λ piece is. late.1 piece (sym e ∙ is))
outcome_trans x y z v w le (inr late) next = inr (omega (arith, late.0), late.1)

pub bounded : (x y : Spelled) (w : List ℕ) → Outcome x y w → length w ≤ MOST → x ≡ y
bounded x y w (inl e) le = e
bounded x y w (inr late) le = absurd (omega (arith, late.0))

pub ended : (x y : Spelled) (w : List ℕ) (piece : Piece (List ℕ)) → Outcome x y w → x ≡ Ok piece → y ≡ Ok piece
ended x y w piece (inl e) is = sym e ∙ is
ended x y w piece (inr late) is = absurd (late.1 piece is)

-- These bytes lead a reader that stands so, behind n bytes that spell `v`, to where it stands so and `w` is spelled.
pub record Moves (from : Within) (v : List ℕ) (n : ℕ) (used : List ℕ) (to : Within) (w : List ℕ) : Type 0 where
  pub grows : length v ≤ length w
  pub leads : (rest : List ℕ) → Outcome (string_at from v n (used ++ rest)) (string_at to w (n + length used) rest) w

pub moves_by : {from to : Within} {v w x used more : List ℕ} {n : ℕ} → used ≡ more → w ≡ x → Moves from v n used to w → Moves from v n more to x
moves_by {from} {to} {v} {w} {x} {used} {more} {n} e f m = subst (λ (z : List ℕ). Moves from v n z to x) e (subst (λ (z : List ℕ). Moves from v n used to z) f m)

pub moves_trans : {from mid to : Within} {v w x used more : List ℕ} {n : ℕ} → Moves from v n used mid w → Moves mid w (n + length used) more to x
    → Moves from v n (used ++ more) to x
moves_trans {from} {mid} {to} {v} {w} {x} {used} {more} {n} f t = record {
  grows = omega (arith, f.grows, t.grows);
  leads = λ rest.
      let whole = outcome_trans _ _ _ w x t.grows (f.leads (more ++ rest)) (t.leads rest) in
      let front = subst (λ (z : List ℕ). Outcome (string_at from v n z) (string_at to x (n + length used + length more) rest) x) (sym (append_assoc used more rest)) whole in
      subst (λ (k : ℕ). Outcome (string_at from v n ((used ++ more) ++ rest)) (string_at to x k rest) x) (omega (arith, length-append used more)) front;
}

stays : (at : Within) (v : List ℕ) (n : ℕ) → Moves at v n [] at v
stays at v n = record { grows = omega arith; leads = λ rest. inl (ap (λ (k : ℕ). string_at at v k rest) (omega arith)) }

-- ---- bytes

stands : (b : ℕ) → is_string_byte b ≡ true → (eqb b 34 ≡ false) × (eqb b 37 ≡ false)
stands b h = (grind (arith, nat_tests), grind (arith, nat_tests))

unless_full : (t : Bool) (k : ℕ) (v w : List ℕ) (x : Spelled) → is_full v ≡ t → length w ≡ length v + 1
    → Outcome (cond t (flaw TokenTooLong 0 k) x) x w
unless_full true k v w x e more = let full = leb-true _ _ e in inr (omega (arith, full, more), λ piece is. cc)
unless_full false k v w x e more = inl refl

one_more : (v : List ℕ) (b : ℕ) → length (v ++ b ∷ []) ≡ length v + 1
one_more v b = length-append v (b ∷ [])

plain_byte : (b : ℕ) (v : List ℕ) (n : ℕ) → is_string_byte b ≡ true → Moves within.Parts v n (b ∷ []) within.Parts (v ++ b ∷ [])
unfolding string_at
plain_byte b v n is = record {
  grows = omega (arith, one_more v b);
  leads = λ rest.
      let s = stands b is in
      rw (is, s.0, s.1) (unless_full (is_full v) (n + 1) v (v ++ b ∷ []) (string_at within.Parts (v ++ b ∷ []) (n + 1) rest) refl (one_more v b));
}

percent : (v : List ℕ) (n : ℕ) → Moves within.Parts v n (37 ∷ []) (within.Escape n false) v
unfolding string_at
percent v n = record { grows = omega arith; leads = λ rest. inl refl }

white_byte : (b s n : ℕ) (coded : Bool) (v : List ℕ) → is_space b ≡ true → Moves (within.Escape s coded) v n (b ∷ []) (within.Escape s coded) v
unfolding string_at
white_byte b s n coded v is = record { grows = omega arith; leads = λ rest. inl (rw is refl) }

pub white_bytes : (white : List ℕ) (s n : ℕ) (coded : Bool) (v : List ℕ) → AreWhite white
    → Moves (within.Escape s coded) v n white (within.Escape s coded) v
white_bytes [] s n coded v all = stays (within.Escape s coded) v n
white_bytes (b ∷ bs) s n coded v all = moves_trans (white_byte b s n coded v all.0) (white_bytes bs s (n + 1) coded v all.1)

ends_escape : (s n : ℕ) (v : List ℕ) → Moves (within.Escape s true) v n (37 ∷ []) within.Parts v
unfolding string_at
ends_escape s n v = record { grows = omega arith; leads = λ rest. inl refl }

digit_no_space : (b : ℕ) → is_ascii_digit b ≡ true → is_space b ≡ false
digit_no_space b h = grind (arith, nat_tests)

space_no_digit : (b : ℕ) → is_space b ≡ true → is_ascii_digit b ≡ false
space_no_digit b h = grind (arith, nat_tests)

first_digit : (b s n : ℕ) (coded : Bool) (v : List ℕ) → is_ascii_digit b ≡ true
    → Moves (within.Escape s coded) v n (b ∷ []) (within.Code s (b - 48)) v
unfolding string_at
first_digit b s n coded v is = record { grows = omega arith; leads = λ rest. inl (let no = digit_no_space b is in rw (no, is) refl) }

next_digit : (b s k n : ℕ) (v : List ℕ) → is_ascii_digit b ≡ true → 10 * k + (b - 48) ≤ 255
    → Moves (within.Code s k) v n (b ∷ []) (within.Code s (10 * k + (b - 48))) v
unfolding string_at
next_digit b s k n v is le = record { grows = omega arith; leads = λ rest. inl (rw (is, le-ltb 255 (10 * k + (b - 48)) le) refl) }

-- the value that digits take a number to
abbrev pub value_from : ℕ → List ℕ → ℕ
value_from k digits = fold (λ n d. 10 * n + (d - 48)) k digits

value_grows : (k : ℕ) (digits : List ℕ) → k ≤ value_from k digits
value_grows k [] = omega arith
value_grows k (d ∷ ds) = omega (arith, value_grows (10 * k + (d - 48)) ds)

next_digits : (digits : List ℕ) (s k n : ℕ) (v : List ℕ) → AllByRecursion (λ b. IsTrue (is_ascii_digit b)) digits → value_from k digits ≤ 255
    → Moves (within.Code s k) v n digits (within.Code s (value_from k digits)) v
next_digits [] s k n v all le = stays (within.Code s k) v n
next_digits (d ∷ ds) s k n v all le =
    let next : ℕ = 10 * k + (d - 48) in
    moves_trans (next_digit d s k n v all.0 (omega (arith, value_grows next ds))) (next_digits ds s next (n + 1) v all.1 le)

digits_from : (digits : List ℕ) (s n : ℕ) (coded : Bool) (v : List ℕ) → AreDigits digits → decimal_value digits ≤ 255
    → Moves (within.Escape s coded) v n digits (within.Code s (decimal_value digits)) v
digits_from [] s n coded v each le = absurd (omega (arith, each.0))
digits_from (d ∷ ds) s n coded v each le =
    let same : value_from (d - 48) ds ≡ decimal_value (d ∷ ds) = ap (λ (k : ℕ). value_from k ds) (omega arith) in
    let more = moves_trans (first_digit d s n coded v each.1.0) (next_digits ds s (d - 48) (n + 1) v each.1.1 (omega (arith, same, le))) in
    subst (λ (k : ℕ). Moves (within.Escape s coded) v n (d ∷ ds) (within.Code s k) v) same more

pub code_read : (c : Code) (s n : ℕ) (coded : Bool) (v : List ℕ) → IsCode c
    → Moves (within.Escape s coded) v n (code_bytes c) (within.Code s (code_value c)) v
code_read c s n coded v is = moves_trans (white_bytes c.white s n coded v is.0) (digits_from c.digits s (n + length c.white) coded v is.1 is.2)

-- ---- the end of a code

white_ends : (b s k n : ℕ) (v : List ℕ) → is_space b ≡ true → Moves (within.Code s k) v n (b ∷ []) (within.Escape s true) (v ++ k ∷ [])
unfolding string_at
white_ends b s k n v is = record {
  grows = omega (arith, one_more v k);
  leads = λ rest.
      let no = space_no_digit b is in
      rw (no, is) (unless_full (is_full v) n v (v ++ k ∷ []) (string_at (within.Escape s true) (v ++ k ∷ []) (n + 1) rest) refl (one_more v k));
}

percent_ends : (s k n : ℕ) (v : List ℕ) → Moves (within.Code s k) v n (37 ∷ []) within.Parts (v ++ k ∷ [])
unfolding string_at
percent_ends s k n v = record {
  grows = omega (arith, one_more v k);
  leads = λ rest. unless_full (is_full v) n v (v ++ k ∷ []) (string_at within.Parts (v ++ k ∷ []) (n + 1) rest) refl (one_more v k);
}

-- white space behind a code, at least one byte
white_after : (white : List ℕ) (s k n : ℕ) (v : List ℕ) → AreWhite white → 0 < length white
    → Moves (within.Code s k) v n white (within.Escape s true) (v ++ k ∷ [])
white_after [] s k n v all some = absurd (omega arith)
white_after (b ∷ bs) s k n v all some = moves_trans (white_ends b s k n v all.0) (white_bytes bs s (n + 1) true (v ++ k ∷ []) all.1)

-- the end of an escape behind a code
code_ends : (white : List ℕ) (s k n : ℕ) (v : List ℕ) → AreWhite white → Moves (within.Code s k) v n (white ++ 37 ∷ []) within.Parts (v ++ k ∷ [])
code_ends [] s k n v all = percent_ends s k n v
code_ends (b ∷ bs) s k n v all = moves_trans (white_after (b ∷ bs) s k n v all (omega arith)) (ends_escape s (n + length (b ∷ bs)) (v ++ k ∷ []))

-- further codes, and what ends the last
abbrev EndsCodes : ℕ → List ℕ → Within → Type 0
EndsCodes s tail to = (k n : ℕ) (v : List ℕ) → Moves (within.Code s k) v n tail to (v ++ k ∷ [])

codes_then : (s : ℕ) (tail : List ℕ) (to : Within) → EndsCodes s tail to → (cs : List Code) → AllByRecursion (λ d. IsCode d × (0 < length d.white)) cs
    → (k n : ℕ) (v : List ℕ) → Moves (within.Code s k) v n (codes_bytes cs ++ tail) to (v ++ k ∷ codes_value cs)
codes_then s tail to ends [] all k n v = ends k n v
codes_then s tail to ends (c ∷ cs) all k n v =
    let w : List ℕ = v ++ k ∷ [] in
    let white = white_after c.white s k n v all.0.0.0 all.0.1 in
    let digits = digits_from c.digits s (n + length c.white) true w all.0.0.1 all.0.0.2 in
    let others = codes_then s tail to ends cs all.1 (code_value c) (n + length (code_bytes c)) w in
    moves_by (sym (append_assoc (code_bytes c) (codes_bytes cs) tail)) (append_assoc v (k ∷ []) (code_value c ∷ codes_value cs)) (moves_trans (moves_trans white digits) others)

-- all codes of an escape, and what ends the last
codes_read : (s : ℕ) (tail : List ℕ) (to : Within) → EndsCodes s tail to → (c : Code) (cs : List Code) → AreCodes (c ∷ cs)
    → (coded : Bool) (n : ℕ) (v : List ℕ) → Moves (within.Escape s coded) v n (codes_bytes (c ∷ cs) ++ tail) to (v ++ codes_value (c ∷ cs))
codes_read s tail to ends c cs all coded n v =
    moves_by (sym (append_assoc (code_bytes c) (codes_bytes cs) tail)) refl
    (moves_trans (code_read c s n coded v all.0) (codes_then s tail to ends cs all.1 (code_value c) (n + length (code_bytes c)) v))

-- ---- parts

part_read : (p : Part) (n : ℕ) (v : List ℕ) → IsPart p → Moves within.Parts v n (part_bytes p) within.Parts (v ++ part_value p)
part_read (Plain b) n v is = plain_byte b v n is
part_read (Escaped [] white) n v is = absurd (omega (arith, is.0))
part_read (Escaped (c ∷ cs) white) n v is =
    moves_trans (percent v n) (codes_read n (white ++ 37 ∷ []) within.Parts (λ k m w. code_ends white n k m w is.2) c cs is.1 false (n + 1) v)

pub parts_read : (ps : List Part) (n : ℕ) (v : List ℕ) → AreParts ps → Moves within.Parts v n (parts_bytes ps) within.Parts (v ++ parts_value ps)
parts_read [] n v all = moves_by refl (sym (append-nil v)) (stays within.Parts v n)
parts_read (p ∷ ps) n v all =
    moves_by refl (append_assoc v (part_value p) (parts_value ps)) (moves_trans (part_read p n v all.0) (parts_read ps (n + length (part_bytes p)) (v ++ part_value p) all.1))

-- an escape that has not ended
codes_front : (codes : List Code) (white : List ℕ) (s n : ℕ) (v : List ℕ) → AreCodes codes → AreWhite white → IsApart codes white
    → Moves (within.Escape s false) v n (codes_bytes codes ++ white) (within.Escape s (is_some codes)) (v ++ codes_value codes)
codes_front [] white s n v all blank apart = moves_by refl (sym (append-nil v)) (white_bytes white s n false v blank)
codes_front (c ∷ cs) white s n v all blank apart = codes_read s white (within.Escape s true) (λ k m w. white_after white s k m w blank apart) c cs all false n v

-- where a reader stands behind a front, and what is spelled there but for a code that may go on
abbrev pub standing : Front → ℕ → Within
standing (Between parts) n = within.Parts
standing (Escaping parts codes white) n = within.Escape (n + length (parts_bytes parts)) (is_some codes)
standing (Coding parts codes code) n = within.Code (n + length (parts_bytes parts)) (code_value code)

abbrev pub settled : Front → List ℕ
settled (Between parts) = parts_value parts
settled (Escaping parts codes white) = parts_value parts ++ codes_value codes
settled (Coding parts codes code) = parts_value parts ++ codes_value codes

escape_front : (ps : List Part) (codes : List Code) (white : List ℕ) (n : ℕ) → AreParts ps → AreCodes codes → AreWhite white → IsApart codes white
    → Moves within.Parts [] n (parts_bytes ps ++ 37 ∷ (codes_bytes codes ++ white)) (within.Escape (n + length (parts_bytes ps)) (is_some codes)) (parts_value ps ++ codes_value codes)
escape_front ps codes white n all each blank apart =
    let m : ℕ = n + length (parts_bytes ps) in
    moves_trans (parts_read ps n [] all) (moves_trans (percent (parts_value ps) m) (codes_front codes white m (m + 1) (parts_value ps) each blank apart))

pub front_read : (front : Front) (n : ℕ) → IsFront front → Moves within.Parts [] n (front_bytes front) (standing front n) (settled front)
front_read (Between parts) n is = parts_read parts n [] is
front_read (Escaping parts codes white) n is = escape_front parts codes white n is.0 is.1 is.2 is.3
front_read (Coding parts codes code) n is =
    let used : List ℕ = parts_bytes parts ++ 37 ∷ (codes_bytes codes ++ code.white) in
    let before = escape_front parts codes code.white n is.0 is.1 is.2.0 is.3 in
    moves_by (append_assoc (parts_bytes parts) (37 ∷ (codes_bytes codes ++ code.white)) code.digits ∙ ap (λ (z : List ℕ). parts_bytes parts ++ 37 ∷ z) (append_assoc (codes_bytes codes) code.white code.digits)) refl
    (moves_trans before (digits_from code.digits (n + length (parts_bytes parts)) (n + length used) (is_some codes) (parts_value parts ++ codes_value codes) is.2.1 is.2.2))
