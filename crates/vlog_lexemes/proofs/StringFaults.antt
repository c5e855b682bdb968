-- Why bytes behind a quote are no string, both ways.
use Rattle.std.proofs.Common.{◌≡◌, ℕ, suc, ◌+◌, ◌-◌, ◌*◌, ◌<◌, ◌≤◌, Bool, true, false, cond, eqb, ltb, ◌||◌, List, [], ◌∷◌, ◌++◌, length, IsTrue, refl, sym, ap, ◌∙◌, subst, arith, length-append, append_assoc, append-nil}
use Rattle.std.specs.List.{AllByRecursion}
use Rattle.std.proofs.lemmas.Bool.{le-leb, lt-ltb, ltb-true}
use Rattle.nl_base.specs.declared.fault.Reason.{Reason}
use Rattle.nl_base.specs.declared.fault.Reason.TheVariants.{EndOfInput, BadByte, BadEscape, TokenTooLong}
use Rattle.nl_bytes.specs.Classes.{is_verilog_string_byte}
use Rattle.vlog_tokens.specs.declared.string.Escaped.TheVariants.{NoEscape, NoByte}
use Rattle.nl_bytes.specs.Flaws.{Piece, flaw}
use Rattle.vlog_tokens.specs.Strings.{Within, string_at, is_full, is_octal, escaped_by, part_by, escape_by, with_code}
use Rattle.vlog_tokens.specs.Strings as within
use Rattle.vlog_lexemes.specs.Strings.{MOST, Part, Plain, Coded, StandsFor, line_feed, tab, backslash, quote, octal_value, NoOctal, IsCode, IsPart, part_bytes, part_value, parts_bytes, parts_value, AreParts}
use Rattle.vlog_lexemes.specs.Strings as parts
use Rattle.vlog_lexemes.specs.Faults.{may_escape, count_of}
use Rattle.vlog_lexemes.proofs.Strings.{Spelled, not_full, plain_read, escaped_read, value_from, value_grows, begin_code, digit_read, part_read, parts_read, stands}

-- ---- from the table to the bytes

flaw_by : (reason : Reason) (a b c d : ℕ) → a ≡ c → b ≡ d → flaw {A = Piece (List ℕ)} reason a b ≡ flaw {A = Piece (List ℕ)} reason c d
flaw_by reason a b c d e f = ap (λ (x : ℕ). flaw {A = Piece (List ℕ)} reason x b) e ∙ ap (λ (x : ℕ). flaw {A = Piece (List ℕ)} reason c x) f

-- behind parts, where something stands behind them
pub string_then : (ps : List Part) (tail : List ℕ) → AreParts ps tail → 0 < length tail → length (parts_value ps) ≤ MOST
    → string_at within.Parts [] 1 (parts_bytes ps ++ tail) ≡ string_at within.Parts (parts_value ps) (count_of ps) tail
string_then ps tail all some most = parts_read ps 1 [] tail all some most

code_run : (digits : List ℕ) (k more n : ℕ) (v rest : List ℕ) → AllByRecursion (λ b. IsTrue (is_octal b)) digits → length digits ≤ more
    → value_from k digits ≤ 255
    → string_at (within.Code k more) v n (digits ++ rest) ≡ string_at (within.Code (value_from k digits) (more - length digits)) v (n + length digits) rest
code_run [] k more n v rest each few byte =
    ap (λ (j : ℕ). string_at (within.Code k j) v n rest) (omega arith) ∙ ap (λ (j : ℕ). string_at (within.Code k (more - 0)) v j rest) (omega arith)
code_run (d ∷ ds) k more n v rest each few byte =
    let next : ℕ = 8 * k + (d - 48) in
    digit_read d k more n v (ds ++ rest) (omega (arith, few)) each.0 (omega (arith, byte, value_grows next ds))
    ∙ code_run ds next (more - 1) (n + 1) v rest each.1 (omega (arith, few)) byte
    ∙ ap (λ (j : ℕ). string_at (within.Code (value_from next ds) j) v (n + 1 + length ds) rest) (omega arith)
    ∙ ap (λ (j : ℕ). string_at (within.Code (value_from next ds) (more - suc (length ds))) v j rest) (omega arith)

-- a code and the digits so far
code_so_far : (digits : List ℕ) (n : ℕ) (v rest : List ℕ) → 0 < length digits → length digits ≤ 3 → AllByRecursion (λ b. IsTrue (is_octal b)) digits
    → octal_value digits ≤ 255
    → string_at within.Parts v n (92 ∷ (digits ++ rest)) ≡ string_at (within.Code (octal_value digits) (3 - length digits)) v (n + 1 + length digits) rest
code_so_far [] n v rest some few each byte = absurd (omega (arith, some))
code_so_far (d ∷ ds) n v rest some few each byte =
    let same : value_from (d - 48) ds ≡ octal_value (d ∷ ds) = ap (λ (k : ℕ). value_from k ds) (omega arith) in
    begin_code d n v (ds ++ rest) each.0 ∙ code_run ds (d - 48) 2 (n + 1 + 1) v rest each.1 (omega (arith, few)) (omega (arith, same, byte))
    ∙ ap (λ (k : ℕ). string_at (within.Code k (2 - length ds)) v (n + 1 + 1 + length ds) rest) same
    ∙ ap (λ (j : ℕ). string_at (within.Code (octal_value (d ∷ ds)) j) v (n + 1 + 1 + length ds) rest) (omega arith)
    ∙ ap (λ (j : ℕ). string_at (within.Code (octal_value (d ∷ ds)) (3 - suc (length ds))) v j rest) (omega arith)

end_flaw : (n : ℕ) → Spelled
end_flaw n = flaw EndOfInput n n

end_by : (m n : ℕ) → m ≡ n → flaw {A = Piece (List ℕ)} EndOfInput m m ≡ flaw EndOfInput n n
end_by m n e = ap (λ (k : ℕ). flaw {A = Piece (List ℕ)} EndOfInput k k) e

end_parts : (v : List ℕ) (n : ℕ) → string_at within.Parts v n [] ≡ flaw EndOfInput n n
unfolding string_at
end_parts v n = refl

end_code : (k more : ℕ) (v : List ℕ) (n : ℕ) → length (v ++ k ∷ []) ≤ MOST → string_at (within.Code k more) v n [] ≡ flaw EndOfInput n n
unfolding string_at
end_code k more v n most = rw (not_full v k most) refl

last_end : (p : Part) (n : ℕ) (v : List ℕ) → IsPart p [] → length (v ++ part_value p) ≤ MOST
    → string_at within.Parts v n (part_bytes p) ≡ flaw EndOfInput (n + length (part_bytes p)) (n + length (part_bytes p))
last_end (Plain b) n v is most = plain_read b n v [] is most ∙ end_parts (v ++ b ∷ []) (n + 1) ∙ end_by _ _ (omega arith)
last_end (parts.Escaped b c) n v is most = escaped_read b c n v [] is most ∙ end_parts (v ++ c ∷ []) (n + 1 + 1) ∙ end_by _ _ (omega arith)
last_end (Coded digits) n v is most =
    ap (λ (z : List ℕ). string_at within.Parts v n (92 ∷ z)) (sym (append-nil digits)) ∙ code_so_far digits n v [] is.some is.most is.each is.byte
    ∙ end_code (octal_value digits) (3 - length digits) v (n + 1 + length digits) most ∙ end_by _ _ (omega arith)

part_some : (p : Part) → 0 < length (part_bytes p)
part_some (Plain b) = omega arith
part_some (parts.Escaped b c) = omega arith
part_some (Coded digits) = omega arith

parts_end : (ps : List Part) (n : ℕ) (v : List ℕ) → AreParts ps [] → length (v ++ parts_value ps) ≤ MOST
    → string_at within.Parts v n (parts_bytes ps) ≡ flaw EndOfInput (n + length (parts_bytes ps)) (n + length (parts_bytes ps))
parts_end [] n v all most = end_parts v n ∙ end_by _ _ (omega arith)
parts_end (p ∷ []) n v all most =
    ap (string_at within.Parts v n) (append-nil (part_bytes p)) ∙ last_end p n v all.0 (subst (λ (z : List ℕ). length (v ++ z) ≤ MOST) (append-nil (part_value p)) most)
    ∙ end_by _ _ (omega (arith, length-append (part_bytes p) []))
parts_end (p ∷ (q ∷ qs)) n v all most =
    let behind : List ℕ = parts_bytes (q ∷ qs) in
    let values : (v ++ part_value p) ++ parts_value (q ∷ qs) ≡ v ++ (part_value p ++ parts_value (q ∷ qs)) = append_assoc v (part_value p) (parts_value (q ∷ qs)) in
    let small : length ((v ++ part_value p) ++ parts_value (q ∷ qs)) ≤ MOST = subst (λ (z : List ℕ). length z ≤ MOST) (sym values) most in
    let some : 0 < length behind = omega (arith, part_some q, length-append (part_bytes q) (parts_bytes qs)) in
    part_read p n v behind (subst (IsPart p) (append-nil behind) all.0) some (omega (arith, small, length-append (v ++ part_value p) (parts_value (q ∷ qs))))
    ∙ parts_end (q ∷ qs) (n + length (part_bytes p)) (v ++ part_value p) all.1 small ∙ end_by _ _ (omega (arith, length-append (part_bytes p) behind))

pub reads_unended : (ps : List Part) → AreParts ps [] → length (parts_value ps) ≤ MOST
    → string_at within.Parts [] 1 (parts_bytes ps) ≡ flaw EndOfInput (count_of ps) (count_of ps)
reads_unended ps all most = parts_end ps 1 [] all most

pub reads_slash_end : (v : List ℕ) (n : ℕ) → string_at within.Parts v n (92 ∷ []) ≡ flaw EndOfInput (n + 1) (n + 1)
unfolding string_at
reads_slash_end v n = refl

or_parts : (x y z : Bool) → (x || y || z) ≡ false → (x ≡ false) × (y ≡ false) × (z ≡ false)
or_parts false false false e = (refl, refl, refl)
or_parts false false true e = absurd cc
or_parts false true z e = absurd cc
or_parts true y z e = absurd cc

or_four : (x y z t : Bool) → (x || y || z || t) ≡ false → (x ≡ false) × (y ≡ false) × (z ≡ false) × (t ≡ false)
or_four false false false false e = (refl, refl, refl, refl)
or_four false false false true e = absurd cc
or_four false false true t e = absurd cc
or_four false true z t e = absurd cc
or_four true y z t e = absurd cc

pub reads_bad : (v : List ℕ) (n b : ℕ) (rest : List ℕ) → (eqb b 34 || eqb b 92 || is_verilog_string_byte b) ≡ false
    → string_at within.Parts v n (b ∷ rest) ≡ flaw BadByte n (n + 1)
unfolding string_at
reads_bad v n b rest none = let p = or_parts (eqb b 34) (eqb b 92) (is_verilog_string_byte b) none in rw (p.2, p.0, p.1) refl

no_escape : (b : ℕ) (t : Bool) → may_escape b ≡ false → is_verilog_string_byte b ≡ t → escaped_by b ≡ cond t NoEscape NoByte
no_escape b t none e = let p = or_four (eqb b 110) (eqb b 116) (eqb b 92 || eqb b 34) (is_octal b) none in rw (e, p.0, p.1, p.2, p.3) refl

pub reads_bad_escape : (v : List ℕ) (n b : ℕ) (rest : List ℕ) → may_escape b ≡ false → is_verilog_string_byte b ≡ true
    → string_at within.Parts v n (92 ∷ b ∷ rest) ≡ flaw BadEscape n (n + 2)
unfolding string_at
reads_bad_escape v n b rest none byte = let e = no_escape b true none byte in rw e (flaw_by BadEscape (n + 1 - 1) (n + 1 + 1) n (n + 2) (omega arith) (omega arith))

pub reads_bad_in_escape : (v : List ℕ) (n b : ℕ) (rest : List ℕ) → may_escape b ≡ false → is_verilog_string_byte b ≡ false
    → string_at within.Parts v n (92 ∷ b ∷ rest) ≡ flaw BadByte (n + 1) (n + 2)
unfolding string_at
reads_bad_in_escape v n b rest none byte = let e = no_escape b false none byte in rw e (flaw_by BadByte (n + 1) (n + 1 + 1) (n + 1) (n + 2) refl (omega arith))

above : (k more n b : ℕ) (v rest : List ℕ) → 0 < more → is_octal b ≡ true → 255 < 8 * k + (b - 48)
    → string_at (within.Code k more) v n (b ∷ rest) ≡ flaw BadEscape (n - (4 - more)) (n + 1)
unfolding string_at
above k more n b v rest some octal large = rw (lt-ltb 0 more some, octal, lt-ltb 255 (8 * k + (b - 48)) large) refl

pub reads_large : (v : List ℕ) (n : ℕ) (digits : List ℕ) (b : ℕ) (rest : List ℕ) → 0 < length digits → length digits < 3
    → AllByRecursion (λ d. IsTrue (is_octal d)) digits → octal_value digits ≤ 255 → is_octal b ≡ true → 255 < 8 * octal_value digits + (b - 48)
    → string_at within.Parts v n (92 ∷ (digits ++ b ∷ rest)) ≡ flaw BadEscape n (n + 1 + length digits + 1)
reads_large v n digits b rest some few each byte octal large =
    code_so_far digits n v (b ∷ rest) some (omega (arith, few)) each byte
    ∙ above (octal_value digits) (3 - length digits) (n + 1 + length digits) b v rest (omega (arith, few)) octal large
    ∙ flaw_by BadEscape _ _ n _ (omega (arith, few)) refl

full_is : (v : List ℕ) → length v ≡ MOST → is_full v ≡ true
full_is v e = le-leb 1048576 (length v) (omega (arith, e))

pub reads_long : (v : List ℕ) (n b : ℕ) (rest : List ℕ) → is_verilog_string_byte b ≡ true → length v ≡ MOST
    → string_at within.Parts v n (b ∷ rest) ≡ flaw TokenTooLong 0 (n + 1)
unfolding string_at
reads_long v n b rest byte full = let s = stands b byte in rw (byte, s.0, s.1, full_is v full) refl

pub reads_long_escape : (v : List ℕ) (n b c : ℕ) (rest : List ℕ) → StandsFor b c → length v ≡ MOST
    → string_at within.Parts v n (92 ∷ b ∷ rest) ≡ flaw TokenTooLong 0 (n + 2)
unfolding string_at
reads_long_escape v n b c rest line_feed full = rw (full_is v full) (flaw_by TokenTooLong 0 (n + 1 + 1) 0 (n + 2) refl (omega arith))
reads_long_escape v n b c rest tab full = rw (full_is v full) (flaw_by TokenTooLong 0 (n + 1 + 1) 0 (n + 2) refl (omega arith))
reads_long_escape v n b c rest backslash full = rw (full_is v full) (flaw_by TokenTooLong 0 (n + 1 + 1) 0 (n + 2) refl (omega arith))
reads_long_escape v n b c rest quote full = rw (full_is v full) (flaw_by TokenTooLong 0 (n + 1 + 1) 0 (n + 2) refl (omega arith))

code_full : (k more n : ℕ) (v rest : List ℕ) → (0 < more → NoOctal rest) → length v ≡ MOST
    → string_at (within.Code k more) v n rest ≡ flaw TokenTooLong 0 n
unfolding string_at
code_full k more n v [] none full = rw (full_is v full) refl
code_full k more n v (b ∷ bs) none full = by (ltb 0 more) refl
  where
    by : (t : Bool) → ltb 0 more ≡ t → string_at (within.Code k more) v n (b ∷ bs) ≡ flaw TokenTooLong 0 n
    by true e = let no_digit = none (ltb-true _ _ e) in rw (no_digit, e, full_is v full) refl
    by false e = rw (e, full_is v full) refl

pub reads_long_code : (v : List ℕ) (n : ℕ) (digits rest : List ℕ) → IsCode digits rest → length v ≡ MOST
    → string_at within.Parts v n (92 ∷ (digits ++ rest)) ≡ flaw TokenTooLong 0 (n + 1 + length digits)
reads_long_code v n digits rest is full =
    code_so_far digits n v rest is.some is.most is.each is.byte
    ∙ code_full (octal_value digits) (3 - length digits) (n + 1 + length digits) v rest (λ lt. is.all (omega (arith, lt))) full
