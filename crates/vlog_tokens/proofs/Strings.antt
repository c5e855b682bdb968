-- Strings, part by part.
use Rattle.std.proofs.Common.{◌≡◌, ℕ, ◌+◌, ◌-◌, ◌*◌, ◌<◌, ◌≤◌, Bool, true, false, cond, ltb, List, [], ◌∷◌, ◌++◌, length, take, drop, Option, Some, None, Result, Ok, Err, refl, sym, ap, ◌∙◌, subst, arith, inl, inr, length-append, append_assoc, append-nil, add-zero, eqb, ◌&&◌}
use Rattle.std.specs.Prelude.{◌⊎◌}
use Rattle.std.proofs.lemmas.Bool.{lt-ltb, le-ltb, le-leb, lt-leb, ne_eqb}
use Rattle.std.proofs.lemmas.List.{take_at}
use Rattle.nl_base.specs.declared.place.Place.{Place}
use Rattle.nl_base.specs.Place.{place_past}
use Rattle.nl_base.specs.declared.fault.Reason.{Reason}
use Rattle.nl_base.specs.declared.fault.Reason.TheVariants.{EndOfInput, BadByte, BadEscape, TokenTooLong}
use Rattle.nl_base.specs.declared.fault.ReadError.{ReadError}
use Rattle.nl_base.specs.declared.fault.ReadError.TheVariants.{NoMemory}
use Rattle.nl_bytes.specs.declared.class.Class.TheVariants.{VerilogStringByte}
use Rattle.nl_bytes.specs.declared.halt.Halt.{Halt}
use Rattle.nl_bytes.specs.Halts.{error_of}
use Rattle.nl_bytes.specs.Classes.{AreIn, is_verilog_string_byte}
use Rattle.nl_bytes.specs.Bytes.{Window, Uses, Runs, IsAhead, input}
use Rattle.nl_bytes.proofs.Uses.{Uses-trans, offset_grows}
use Rattle.nl_bytes.proofs.Known.{IsAhead-known}
use Rattle.vlog_tokens.specs.declared.item.Item.TheVariants.{Token}
use Rattle.vlog_tokens.specs.declared.item.Spot.{Spot}
use Rattle.vlog_tokens.specs.declared.token.VToken.TheVariants.{Str}
use Rattle.vlog_tokens.specs.declared.string.Escaped.{Escaped}
use Rattle.vlog_tokens.specs.declared.string.Escaped.TheVariants.{Stands, Octal, NoEscape, NoByte}
use Rattle.nl_bytes.specs.Flaws.{Piece, Flaw, flaw, refusal}
use Rattle.vlog_tokens.specs.Spelling.{str_of, string_spelled}
use Rattle.vlog_tokens.specs.Strings.{Within, Parts, Escape, Code, is_octal, escaped_by, is_full, part_by, escape_by, with_code, string_at, Closes, Codes, quoted, closed}
use Rattle.vlog_tokens.specs.Parts.{Reaches, Answers, GivesSpot, Meaning, Part, Reads}
use Rattle.vlog_tokens.proofs.Parts.{Refused, Steps, steps_use, part_used, part_then, part_halted, refusal_answers, refusal_reads, here_at, offset_at, last_unseen}
use Rattle.vlog_tokens.proofs.Scanning.{front_of, none_of, refuses, bad_here, bad_first, reaches_less}
use Rattle.vlog_tokens.proofs.Reading.{StepsOn, reads_err, reads_ok}

-- ---- how far a string is seen

abbrev Later : ℕ → (Within → List ℕ → Result (Piece (List ℕ)) Flaw) → Type 0
Later n after = (next : Within) (kept : List ℕ) → Reaches 0 (n + 1) (after next kept)

by_test : {A : Type 0} (n : ℕ) (t : Bool) (x y : Result (Piece A) Flaw) → Reaches 0 n x → Reaches 0 n y → Reaches 0 n (cond t x y)
by_test n true x y p q = p
by_test n false x y p q = q

part_seen : (value : List ℕ) (n b : ℕ) (after : Within → List ℕ → Result (Piece (List ℕ)) Flaw) → Later n after → Reaches 0 n (part_by value n b after)
part_seen value n b after later =
    by_test n (eqb b 34) (Ok (record { value = value; count = n + 1; seen = n + 1 })) _ (omega arith, omega arith)
    (by_test n (eqb b 92) (after Escape value) _ (reaches_less _ n (later Escape value))
    (by_test n (is_verilog_string_byte b) _ _ (by_test n (is_full value) (flaw TokenTooLong 0 (n + 1)) (after Parts (value ++ b ∷ [])) (omega arith) (reaches_less _ n (later Parts (value ++ b ∷ [])))) (omega arith)))

escape_seen : (e : Escaped) (value : List ℕ) (n : ℕ) (after : Within → List ℕ → Result (Piece (List ℕ)) Flaw) → Later n after → Reaches 0 n (escape_by e value n after)
escape_seen (Stands c) value n after later = by_test n (is_full value) (flaw TokenTooLong 0 (n + 1)) (after Parts (value ++ c ∷ [])) (omega arith) (reaches_less _ n (later Parts (value ++ c ∷ [])))
escape_seen (Octal digit) value n after later = reaches_less _ n (later (Code digit 2) value)
escape_seen NoEscape value n after later = omega arith
escape_seen NoByte value n after later = omega arith

code_seen : (value : List ℕ) (n : ℕ) (rest : Result (Piece (List ℕ)) Flaw) → Reaches 0 n rest → Reaches 0 n (with_code value n rest)
code_seen value n rest h = by_test n (is_full value) (flaw TokenTooLong 0 n) rest (omega arith) h

pub string_seen : (m : Within) (value : List ℕ) (n : ℕ) (bs : List ℕ) → Reaches 0 n (string_at m value n bs)
unfolding string_at
string_seen Parts value n [] = omega arith
string_seen Escape value n [] = omega arith
string_seen (Code code more) value n [] = code_seen value n (flaw EndOfInput n n) (omega arith)
string_seen Parts value n (b ∷ bs) = part_seen value n b (λ next kept. string_at next kept (n + 1) bs) (λ next kept. string_seen next kept (n + 1) bs)
string_seen Escape value n (b ∷ bs) = escape_seen (escaped_by b) value n (λ next kept. string_at next kept (n + 1) bs) (λ next kept. string_seen next kept (n + 1) bs)
string_seen (Code code more) value n (b ∷ bs) =
    by_test n (ltb 0 more && is_octal b) _ _
    (by_test n (ltb 255 (8 * code + (b - 48))) (flaw BadEscape (n - (4 - more)) (n + 1)) (string_at (Code (8 * code + (b - 48)) (more - 1)) value (n + 1) bs) (omega arith) (reaches_less _ n (string_seen (Code (8 * code + (b - 48)) (more - 1)) value (n + 1) bs)))
    (code_seen value n _ (part_seen (value ++ code ∷ []) n b (λ next kept. string_at next kept (n + 1) bs) (λ next kept. string_seen next kept (n + 1) bs)))

-- ---- codes

pub code_digit : (code more n b : ℕ) (value rest : List ℕ) → 0 < more → is_octal b ≡ true → 8 * code + (b - 48) ≤ 255
    → string_at (Code code more) value n (b ∷ rest) ≡ string_at (Code (8 * code + (b - 48)) (more - 1)) value (n + 1) rest
unfolding string_at
code_digit code more n b value rest some octal le = rw (lt-ltb 0 more some, octal, le-ltb 255 (8 * code + (b - 48)) le) refl

-- digits were used, which take a code from `begun` to `code`
abbrev pub Digits : ℕ → List ℕ → ℕ → ℕ → Type 0
Digits begun used code more = (value : List ℕ) (n : ℕ) (rest : List ℕ) → string_at (Code begun 2) value n (used ++ rest) ≡ string_at (Code code more) value (n + length used) rest

pub digits_none : (begun : ℕ) → Digits begun [] begun 2
digits_none begun value n rest = ap (λ (k : ℕ). string_at (Code begun 2) value k rest) (sym (add-zero n))

pub digits_push : (begun : ℕ) (used : List ℕ) (code more b next : ℕ) → Digits begun used code more → 0 < more → is_octal b ≡ true → 8 * code + (b - 48) ≤ 255 → next ≡ 8 * code + (b - 48) → Digits begun (used ++ b ∷ []) next (more - 1)
digits_push begun used code more b next digits some octal le is value n rest =
    ap (string_at (Code begun 2) value n) (append_assoc used (b ∷ []) rest) ∙ digits value n (b ∷ rest)
    ∙ code_digit code more (n + length used) b value rest some octal le
    ∙ ap (λ (c : ℕ). string_at (Code c (more - 1)) value (n + length used + 1) rest) (sym is)
    ∙ ap (λ (k : ℕ). string_at (Code next (more - 1)) value k rest) (omega (arith, length-append used (b ∷ [])))

pub closes_full : (code more : ℕ) (w : Window) (left : Option (List ℕ)) → more ≡ 0 → Closes code more w left
unfolding string_at
closes_full code more w left none value n [] known = refl
closes_full code more w left none value n (b ∷ bs) known = rw none refl

pub closes_end : (code more : ℕ) (w : Window) (left : Option (List ℕ)) → IsAhead w left None → Closes code more w left
unfolding string_at
closes_end code more w left ahead value n rest known = let e = none_of rest (IsAhead-known w left None rest ahead known) in rw e refl

and_false : (t : Bool) → (t && false) ≡ false
and_false true = refl
and_false false = refl

pub closes_other : (code more b : ℕ) (w : Window) (left : Option (List ℕ)) → IsAhead w left (Some b) → is_octal b ≡ false → Closes code more w left
unfolding string_at
closes_other code more b w left ahead other value n rest known =
    let f = front_of rest b (IsAhead-known w left (Some b) rest ahead known) in
    rw (f.1, other, and_false (ltb 0 more)) refl

-- ---- escapes

-- what is refused behind bytes that were used
pub refused_after : {A X : Type 0} {from : Meaning A} (mid : Meaning A) (to : X → Meaning A) (p : Place) {a b : Window} {l m : Option (List ℕ)} {used : List ℕ} → Uses a b l m used
    → ((n : ℕ) (rest : List ℕ) → from n (used ++ rest) ≡ mid (n + length used) rest) → (here : Place) (stop : ℕ) (reason : Reason)
    → ((front rest : List ℕ) → a.place ≡ place_past p front → b.place ≡ place_past p (front ++ used) → input b m ≡ Some rest → Refused (mid (length front + length used) rest) p ((front ++ used) ++ rest) here stop reason)
    → Part from to p a b l m (Err (refusal here stop reason))
refused_after {A} {X} {from} mid to p {a} {b} {l} {m} {used} u law here stop reason why = record {
  used = used;
  uses = u;
  means = λ front bs rest place known new_known parts.
      let r = why front rest place (here_at u p front place) new_known in
      let meant : flaw reason r.before r.seen ≡ from (length front) bs = sym r.meant_is ∙ sym (law (length front) rest) ∙ ap (from (length front)) (sym parts) in
      let whole : (front ++ used) ++ rest ≡ front ++ bs = append_assoc front used rest ∙ ap (λ (xs : List ℕ). front ++ xs) (sym parts) in
      subst (λ (z : Result (Piece A) Flaw). Answers {A = A} {B = ℕ} p (front ++ bs) (λ _ _. ⊥) z (Err (refusal here stop reason))) meant
      (subst (λ (z : List ℕ). Answers {A = A} {B = ℕ} p z (λ _ _. ⊥) (flaw reason r.before r.seen) (Err (refusal here stop reason))) whole
      (refusal_answers {A = A} {B = ℕ} p ((front ++ used) ++ rest) (λ _ _. ⊥) reason r.before r.seen here stop r.here_is r.stop_is));
  used_up = λ is. absurd (refusal_reads here stop reason is);
}

backslash : (v : List ℕ) (n : ℕ) (rest : List ℕ) → string_at Parts v n (92 ∷ rest) ≡ string_at Escape v (n + 1) rest
unfolding string_at
backslash v n rest = refl

-- the `\` was used
pub backslash_part : (v : List ℕ) (p : Place) {a b c : Window} {l m : Option (List ℕ)} → Steps a b 92 → Uses b c l m [] → Part {X = Unit {0}} (string_at Parts v) (λ _. string_at Escape v) p a c l m (Ok tt)
backslash_part v p {a} {b} {c} {l} {m} s u = part_used (λ _. string_at Escape v) p (Uses-trans a b c l l m (92 ∷ []) [] (steps_use s l) u) tt (λ n rest. backslash v n rest)

pub escape_ends : (v x : List ℕ) (p : Place) {a b c : Window} {l m : Option (List ℕ)} → Steps a b 92 → Uses b c l m [] → IsAhead c m None
    → Part {X = Unit {0}} (string_at Parts v) (λ _. string_at Parts x) p a c l m (Err (refusal c.place c.place.offset EndOfInput))
unfolding string_at
escape_ends v x p {a} {b} {c} {l} {m} s u ahead = part_then (backslash_part v p s u) (refuses (λ _. string_at Parts x) p c m None ahead c.place c.place.offset EndOfInput (λ front rest at e.
    let r = bad_here p c front rest (string_at Escape v (length front) rest) EndOfInput 0 at (rw (none_of rest e) (ap (λ (k : ℕ). flaw EndOfInput (length front) k) (sym (add-zero (length front))))) in
    record { before = r.before; seen = r.seen; meant_is = r.meant_is; here_is = r.here_is; stop_is = omega (arith, r.stop_is) }))

pub escape_no_byte : (v x : List ℕ) (p : Place) {a b c : Window} {l m : Option (List ℕ)} (byte : ℕ) → Steps a b 92 → Uses b c l m [] → IsAhead c m (Some byte) → escaped_by byte ≡ NoByte
    → Part {X = Unit {0}} (string_at Parts v) (λ _. string_at Parts x) p a c l m (Err (refusal c.place (c.place.offset + 1) BadByte))
unfolding string_at
escape_no_byte v x p {a} {b} {c} {l} {m} byte s u ahead is = part_then (backslash_part v p s u) (refuses (λ _. string_at Parts x) p c m (Some byte) ahead c.place (c.place.offset + 1) BadByte (λ front rest at e.
    let f = front_of rest byte e in bad_here p c front rest (string_at Escape v (length front) rest) BadByte 1 at (rw (f.1, is) refl)))

pub escape_full : (v x : List ℕ) (p : Place) {a b c : Window} {l m : Option (List ℕ)} (byte d : ℕ) → Steps a b 92 → Uses b c l m [] → IsAhead c m (Some byte) → escaped_by byte ≡ Stands d → 1048576 ≤ length v
    → Part {X = Unit {0}} (string_at Parts v) (λ _. string_at Parts x) p a c l m (Err (refusal p (c.place.offset + 1) TokenTooLong))
unfolding string_at
escape_full v x p {a} {b} {c} {l} {m} byte d s u ahead is full = part_then (backslash_part v p s u) (refuses (λ _. string_at Parts x) p c m (Some byte) ahead p (c.place.offset + 1) TokenTooLong (λ front rest at e.
    let f = front_of rest byte e in bad_first p c front rest (string_at Escape v (length front) rest) TokenTooLong 1 at (rw (f.1, is, le-leb 1048576 (length v) full) refl)))

pub escape_bad : (v x : List ℕ) (p : Place) {a b c : Window} {l m : Option (List ℕ)} (byte : ℕ) → Steps a b 92 → Uses b c l m [] → IsAhead c m (Some byte) → escaped_by byte ≡ NoEscape
    → Part {X = Unit {0}} (string_at Parts v) (λ _. string_at Parts x) p a c l m (Err (refusal a.place (c.place.offset + 1) BadEscape))
unfolding string_at
escape_bad v x p {a} {b} {c} {l} {m} byte s u ahead is =
    refused_after (string_at Escape v) (λ _. string_at Parts x) p (Uses-trans a b c l l m (92 ∷ []) [] (steps_use s l) u) (backslash v) a.place (c.place.offset + 1) BadEscape (λ front rest at here known.
    let f = front_of rest byte (IsAhead-known c m (Some byte) rest ahead known) in
    let before : length front + 1 - 1 ≡ length front = omega arith in
    record {
      before = length front;
      seen = length front + 2;
      meant_is = rw (f.1, is, before) (ap (λ (k : ℕ). flaw BadEscape (length front) k) (omega arith));
      here_is = at ∙ ap (λ (xs : List ℕ). place_past p xs) (sym (take_at front (92 ∷ rest) (length front) refl) ∙ ap (λ (xs : List ℕ). take (length front) xs) (sym (append_assoc front (92 ∷ []) rest)));
      stop_is = omega (arith, offset_at c p (front ++ 92 ∷ []) here, length-append front (92 ∷ []));
    })

stands_step : (v : List ℕ) (d byte n : ℕ) (rest : List ℕ) → escaped_by byte ≡ Stands d → length v < 1048576 → string_at Escape v n (byte ∷ rest) ≡ string_at Parts (v ++ d ∷ []) (n + 1) rest
unfolding string_at
stands_step v d byte n rest is room = rw (is, lt-leb 1048576 (length v) room) refl

pub escape_stands : (v x : List ℕ) (p : Place) {a b c d : Window} {l m : Option (List ℕ)} (byte e : ℕ) → Steps a b 92 → Uses b c l m [] → Steps c d byte → escaped_by byte ≡ Stands e → length v < 1048576 → x ≡ v ++ e ∷ []
    → Part {X = Unit {0}} (string_at Parts v) (λ _. string_at Parts x) p a d l m (Ok tt)
escape_stands v x p {a} {b} {c} {d} {l} {m} byte e s u t is room added =
    part_then (backslash_part v p s u) (part_used (λ _. string_at Parts x) p (steps_use t m) tt (λ n rest. stands_step v e byte n rest is room ∙ ap (λ (xs : List ℕ). string_at Parts xs (n + 1) rest) (sym added)))

octal_step : (v : List ℕ) (d byte n : ℕ) (rest : List ℕ) → escaped_by byte ≡ Octal d → string_at Escape v n (byte ∷ rest) ≡ string_at (Code d 2) v (n + 1) rest
unfolding string_at
octal_step v d byte n rest is = rw is refl

abbrev pub at_err : Halt → Result (Option ℕ) Halt
at_err h = Err h

-- a `\` and a first digit, and then the others
pub record Coded (v : List ℕ) (a e : Window) (l m : Option (List ℕ)) (r : Result (Option ℕ) Halt) : Type 0 where
  pub used : List ℕ
  pub code : ℕ
  pub more : ℕ
  pub uses : Uses a e l m used
  pub law : (n : ℕ) (rest : List ℕ) → string_at Parts v n (used ++ rest) ≡ string_at (Code code more) v (n + length used) rest
  pub front : (rest : List ℕ) → used ≡ 92 ∷ drop 1 used
  pub all : length used + more ≡ 4
  pub codes : (begun : ℕ) × (old : Window) × (old_left : Option (List ℕ)) × (k : Codes begun old e old_left m r) × (k.code ≡ code) × (k.more ≡ more)

pub coded : (v : List ℕ) {a b c d e : Window} {l m n : Option (List ℕ)} {r : Result (Option ℕ) Halt} (byte digit : ℕ) → Steps a b 92 → Uses b c l m [] → Steps c d byte → escaped_by byte ≡ Octal digit → Codes digit d e m n r → Coded v a e l n r
coded v {a} {b} {c} {d} {e} {l} {m} {n} {r} byte digit s u t is k =
    let two = Uses-trans a c d l m m (92 ∷ []) (byte ∷ []) (Uses-trans a b c l l m (92 ∷ []) [] (steps_use s l) u) (steps_use t m) in
    record {
      used = 92 ∷ byte ∷ k.used;
      code = k.code;
      more = k.more;
      uses = Uses-trans a d e l m n (92 ∷ byte ∷ []) k.used two k.uses;
      law = λ i rest.
          backslash v i (byte ∷ (k.used ++ rest)) ∙ octal_step v digit byte (i + 1) (k.used ++ rest) is ∙ k.digits v (i + 1 + 1) rest
          ∙ ap (λ (j : ℕ). string_at (Code k.code k.more) v j rest) (omega arith);
      front = λ rest. refl;
      all = omega (arith, k.both);
      codes = (digit, d, m, k, refl, refl);
    }

pub coded_halted : {v : List ℕ} {a e : Window} {l m : Option (List ℕ)} {h : Halt} → Coded v a e l m (Err h) → (x : List ℕ) (p : Place) → Part {X = Unit {0}} (string_at Parts v) (λ _. string_at Parts x) p a e l m (Err (error_of h))
coded_halted {v} {a} {e} {l} {m} {h} k x p =
    part_halted (part_used {X = Unit {0}} (λ _. string_at (Code k.code k.more) v) p k.uses tt k.law) (λ _. string_at Parts x) h (λ is. k.codes.3.too_long (ap at_err is)) (λ is. k.codes.3.used_up (ap at_err is)) (λ n rest. string_seen (Code k.code k.more) v n rest)

over_code : (v : List ℕ) (code more b n : ℕ) (rest : List ℕ) → 0 < more → is_octal b ≡ true → 255 < 8 * code + (b - 48) → string_at (Code code more) v n (b ∷ rest) ≡ flaw BadEscape (n - (4 - more)) (n + 1)
unfolding string_at
over_code v code more b n rest some octal above = rw (lt-ltb 0 more some, octal, lt-ltb 255 (8 * code + (b - 48)) above) refl

pub coded_over : {v : List ℕ} {a e : Window} {l m : Option (List ℕ)} → Coded v a e l m (Ok None) → (x : List ℕ) (p : Place)
    → Part {X = Unit {0}} (string_at Parts v) (λ _. string_at Parts x) p a e l m (Err (refusal a.place (e.place.offset + 1) BadEscape))
coded_over {v} {a} {e} {l} {m} k x p = refused_after (string_at (Code k.code k.more) v) (λ _. string_at Parts x) p k.uses k.law a.place (e.place.offset + 1) BadEscape (λ front rest at here known.
    let c = k.codes.3 in
    let over = c.ends in
    let f = front_of rest over.next (IsAhead-known e m (Some over.next) rest over.ahead known) in
    let n = length front + length k.used in
    let before : n - (4 - k.more) ≡ length front = omega (arith, k.all) in
    let above : 255 < 8 * k.code + (over.next - 48) = subst (λ (z : ℕ). 255 < 8 * z + (over.next - 48)) k.codes.4 over.above in
    let some : 0 < k.more = subst (λ (z : ℕ). 0 < z) k.codes.5 over.some in
    record {
      before = length front;
      seen = n + 1;
      meant_is = ap (string_at (Code k.code k.more) v n) f.1 ∙ over_code v k.code k.more over.next n f.0 some over.octal above ∙ ap (λ (i : ℕ). flaw BadEscape i (n + 1)) before;
      here_is = at ∙ ap (λ (xs : List ℕ). place_past p xs) (sym (take_at front (k.used ++ rest) (length front) refl) ∙ ap (λ (xs : List ℕ). take (length front) xs) (sym (append_assoc front k.used rest)));
      stop_is = omega (arith, offset_at e p (front ++ k.used) here, length-append front k.used);
    })

full_code : (v : List ℕ) (n : ℕ) (rest : Result (Piece (List ℕ)) Flaw) → 1048576 ≤ length v → with_code v n rest ≡ flaw TokenTooLong 0 n
full_code v n rest full = rw (le-leb 1048576 (length v) full) refl

room_code : (v : List ℕ) (n : ℕ) (rest : Result (Piece (List ℕ)) Flaw) → length v < 1048576 → with_code v n rest ≡ rest
room_code v n rest room = rw (lt-leb 1048576 (length v) room) refl

closes_at : {v : List ℕ} {a e : Window} {l m : Option (List ℕ)} {c : ℕ} (k : Coded v a e l m (Ok (Some c))) → Closes k.code k.more e m
closes_at {v} {a} {e} {l} {m} {c} k = subst (λ (y : ℕ). Closes k.code y e m) k.codes.5 (subst (λ (z : ℕ). Closes z k.codes.3.more e m) k.codes.4 k.codes.3.ends.1)

pub coded_full : {v : List ℕ} {a e : Window} {l m : Option (List ℕ)} {c : ℕ} → Coded v a e l m (Ok (Some c)) → (x : List ℕ) (p : Place) → 1048576 ≤ length v
    → Part {X = Unit {0}} (string_at Parts v) (λ _. string_at Parts x) p a e l m (Err (refusal p e.place.offset TokenTooLong))
coded_full {v} {a} {e} {l} {m} {c} k x p full = refused_after (string_at (Code k.code k.more) v) (λ _. string_at Parts x) p k.uses k.law p e.place.offset TokenTooLong (λ front rest at here known.
    let n = length front + length k.used in
    record {
      before = 0;
      seen = n;
      meant_is = closes_at k v n rest known ∙ full_code v n (string_at Parts (v ++ k.code ∷ []) n rest) full;
      here_is = refl;
      stop_is = omega (arith, offset_at e p (front ++ k.used) here, length-append front k.used);
    })

pub coded_added : {v : List ℕ} {a e : Window} {l m : Option (List ℕ)} {c : ℕ} → Coded v a e l m (Ok (Some c)) → (x : List ℕ) (p : Place) → length v < 1048576 → x ≡ v ++ c ∷ []
    → Part {X = Unit {0}} (string_at Parts v) (λ _. string_at Parts x) p a e l m (Ok tt)
coded_added {v} {a} {e} {l} {m} {c} k x p room added = record {
  used = k.used;
  uses = k.uses;
  means = λ front bs rest at known new_known parts.
      let n = length front + length k.used in
      let same : c ≡ k.code = k.codes.3.ends.0 ∙ k.codes.4 in
      ap (string_at Parts v (length front)) parts ∙ k.law (length front) rest ∙ closes_at k v n rest new_known ∙ room_code v n (string_at Parts (v ++ k.code ∷ []) n rest) room
      ∙ ap (λ (xs : List ℕ). string_at Parts xs n rest) (ap (λ (z : ℕ). v ++ z ∷ []) (sym same) ∙ sym added);
  used_up = tt;
}

-- what was refused where a byte was to be added
pub refused_add : {from to : Meaning (List ℕ)} {p : Place} {a b : Window} {l m : Option (List ℕ)} (e : ReadError) (stop : ℕ) (full : Type 0) → (e ≡ NoMemory) ⊎ ((e ≡ refusal p stop TokenTooLong) × full)
    → Part {X = Unit {0}} from (λ _. to) p a b l m (Err NoMemory) → (full → Part {X = Unit {0}} from (λ _. to) p a b l m (Err (refusal p stop TokenTooLong))) → Part {X = Unit {0}} from (λ _. to) p a b l m (Err e)
refused_add {from} {to} {p} {a} {b} {l} {m} e stop full (inl is) none late = subst (λ (z : ReadError). Part {X = Unit {0}} from (λ _. to) p a b l m (Err z)) (sym is) none
refused_add {from} {to} {p} {a} {b} {l} {m} e stop full (inr is) none late = subst (λ (z : ReadError). Part {X = Unit {0}} from (λ _. to) p a b l m (Err z)) (sym is.0) (late is.1)

-- ---- parts

plain_not : (b : ℕ) → is_verilog_string_byte b ≡ true → (eqb b 34 ≡ false) × (eqb b 92 ≡ false)
plain_not b plain = (
  ne_eqb b 34 (λ e. let h : is_verilog_string_byte 34 ≡ true = subst (λ (x : ℕ). is_verilog_string_byte x ≡ true) e plain in absurd cc),
  ne_eqb b 92 (λ e. let h : is_verilog_string_byte 92 ≡ true = subst (λ (x : ℕ). is_verilog_string_byte x ≡ true) e plain in absurd cc),
)

pub plain_run : (v used rest : List ℕ) (n : ℕ) → AreIn VerilogStringByte used → length used ≤ 1048576 - length v → string_at Parts v n (used ++ rest) ≡ string_at Parts (v ++ used) (n + length used) rest
unfolding string_at
plain_run v [] rest n all most = ap (λ (xs : List ℕ). string_at Parts xs n rest) (sym (append-nil v)) ∙ ap (λ (k : ℕ). string_at Parts (v ++ []) k rest) (sym (add-zero n))
plain_run v (b ∷ bs) rest n all most =
    let p = plain_not b all.0 in
    let quote = p.0 in
    let escape = p.1 in
    let plain = all.0 in
    let full : is_full v ≡ false = lt-leb 1048576 (length v) (omega arith) in
    rw (plain, quote, escape, full) (plain_run (v ++ b ∷ []) bs rest (n + 1) all.1 (omega (arith, length-append v (b ∷ [])))
    ∙ ap (λ (xs : List ℕ). string_at Parts xs (n + 1 + length bs) rest) (append_assoc v (b ∷ []) bs) ∙ ap (λ (k : ℕ). string_at Parts (v ++ b ∷ bs) k rest) (omega arith))

pub plain_part : {m : ℕ} {old new : Window} {l l' : Option (List ℕ)} {v w : List ℕ} {r : Result (Option ℕ) Halt} → Runs VerilogStringByte m old new l l' v w r → m ≡ 1048576 - length v → (p : Place)
    → Part {X = Unit {0}} (string_at Parts v) (λ _. string_at Parts w) p old new l l' (Ok tt)
plain_part {m} {old} {new} {l} {l'} {v} {w} {r} k m-is p = part_used (λ _. string_at Parts w) p k.uses tt
    (λ n rest. plain_run v k.used rest n k.each (omega (arith, k.bounded)) ∙ ap (λ (xs : List ℕ). string_at Parts xs (n + length k.used) rest) (sym k.added))

pub parts_end : (v x : List ℕ) (p : Place) (w : Window) (l : Option (List ℕ)) → IsAhead w l None → Part {X = Unit {0}} (string_at Parts v) (λ _. string_at Parts x) p w w l l (Err (refusal w.place w.place.offset EndOfInput))
unfolding string_at
parts_end v x p w l ahead = refuses (λ _. string_at Parts x) p w l None ahead w.place w.place.offset EndOfInput (λ front rest at e.
    let r = bad_here p w front rest (string_at Parts v (length front) rest) EndOfInput 0 at (rw (none_of rest e) (ap (λ (k : ℕ). flaw EndOfInput (length front) k) (sym (add-zero (length front))))) in
    record { before = r.before; seen = r.seen; meant_is = r.meant_is; here_is = r.here_is; stop_is = omega (arith, r.stop_is) })

-- a plain byte too many
pub parts_full : (v x : List ℕ) (p : Place) (w : Window) (l : Option (List ℕ)) (b : ℕ) → IsAhead w l (Some b) → is_verilog_string_byte b ≡ true → 1048576 ≤ length v
    → Part {X = Unit {0}} (string_at Parts v) (λ _. string_at Parts x) p w w l l (Err (refusal p (w.place.offset + 1) TokenTooLong))
unfolding string_at
parts_full v x p w l b ahead plain most = refuses (λ _. string_at Parts x) p w l (Some b) ahead p (w.place.offset + 1) TokenTooLong (λ front rest at e.
    let f = front_of rest b e in
    let n = plain_not b plain in
    bad_first p w front rest (string_at Parts v (length front) rest) TokenTooLong 1 at (rw (f.1, plain, n.0, n.1, le-leb 1048576 (length v) most) refl))

-- a byte that may not stand in a string
pub parts_bad : (v x : List ℕ) (p : Place) (w : Window) (l : Option (List ℕ)) (b : ℕ) → IsAhead w l (Some b) → eqb b 34 ≡ false → eqb b 92 ≡ false → is_verilog_string_byte b ≡ false
    → Part {X = Unit {0}} (string_at Parts v) (λ _. string_at Parts x) p w w l l (Err (refusal w.place (w.place.offset + 1) BadByte))
unfolding string_at
parts_bad v x p w l b ahead quote escape plain = refuses (λ _. string_at Parts x) p w l (Some b) ahead w.place (w.place.offset + 1) BadByte (λ front rest at e.
    let f = front_of rest b e in bad_here p w front rest (string_at Parts v (length front) rest) BadByte 1 at (rw (f.1, plain, quote, escape) refl))

-- ---- whole strings

str_on : StepsOn str_of
str_on piece o n h = h

opening : {a b : Window} {quote : ℕ} (l : Option (List ℕ)) (v : List ℕ) → Steps a b quote → v ≡ [] → Part {X = Unit {0}} quoted (λ _. string_at Parts v) a.place a b l l (Ok tt)
opening {a} {b} {quote} l v s empty = part_used (λ _. string_at Parts v) a.place (steps_use s l) tt (λ n rest. ap (λ (xs : List ℕ). string_at Parts xs (n + 1) rest) (sym empty))

pub closing : (w rest : List ℕ) (n : ℕ) → string_at Parts w n (34 ∷ rest) ≡ closed w (n + 1) rest
unfolding string_at
closing w rest n = refl

pub string_refused : (w : List ℕ) {a b c : Window} {quote : ℕ} {m n : Option (List ℕ)} {v : List ℕ} {e : ReadError} (p : Place) → Steps a b quote → v ≡ [] → p ≡ a.place → Part {X = Unit {0}} (string_at Parts v) (λ _. string_at Parts w) p b c m n (Err e)
    → Reads string_spelled a c m n (Err e)
string_refused w {a} {b} {c} {quote} {m} {n} {v} {e} p s empty begins t =
    reads_err (part_then (opening m v s empty) (subst (λ (q : Place). Part {X = Unit {0}} (string_at Parts v) (λ _. string_at Parts w) q b c m n (Err e)) begins t)) str_of str_on string_spelled (λ bs. refl)

-- want of memory answers, whatever would have been given
no_memory : {A B : Type 0} (p : Place) (bs : List ℕ) (G : Piece A → B → Type 0) (x : Result (Piece A) Flaw) → Answers p bs G x (Err NoMemory)
no_memory p bs G (Ok piece) = tt
no_memory p bs G (Err f) = tt

-- there is no memory for a string that was read
pub string_no_memory : {a b c d : Window} {quote : ℕ} {m n : Option (List ℕ)} {used : List ℕ} → Steps a b quote → Uses b c m n used → Steps c d 34 → Reads string_spelled a d m n (Err NoMemory)
string_no_memory {a} {b} {c} {d} {quote} {m} {n} {used} s u z = record {
  used = (quote ∷ [] ++ used) ++ 34 ∷ [];
  uses = Uses-trans a c d m n n (quote ∷ [] ++ used) (34 ∷ []) (Uses-trans a b c m m n (quote ∷ []) used (steps_use s m) u) (steps_use z n);
  some = tt;
  answer = λ bs known. no_memory a.place bs (GivesSpot a.place ((quote ∷ [] ++ used) ++ 34 ∷ [])) (string_spelled bs);
  unseen = tt;
  used_up = λ is. absurd cc;
}

pub string_given : {a b c d : Window} {quote : ℕ} {m n : Option (List ℕ)} {v w : List ℕ} (p : Place) → Steps a b quote → v ≡ [] → p ≡ a.place → Part {X = Unit {0}} (string_at Parts v) (λ _. string_at Parts w) p b c m n (Ok tt) → Steps c d 34
    → (x : Spot) → x ≡ record { item = Token (Str w); stop = c.place.offset + 1 } → Reads string_spelled a d m n (Ok x)
string_given {a} {b} {c} {d} {quote} {m} {n} {v} {w} p s empty begins t z x x-is =
    let inner = part_then (opening m v s empty) (subst (λ (q : Place). Part {X = Unit {0}} (string_at Parts v) (λ _. string_at Parts w) q b c m n (Ok tt)) begins t) in
    let whole = part_then inner (part_used {X = Unit {0}} (λ _. closed w) a.place (steps_use z n) tt (λ i rest. closing w rest i)) in
    let moved : d.place.offset ≡ a.place.offset + length whole.used = offset_grows whole.uses in
    let last : d.place.offset ≡ c.place.offset + 1 = ap (λ (q : Place). q.offset) z.place in
    let first_byte : b.place.offset ≡ a.place.offset + 1 = ap (λ (q : Place). q.offset) s.place in
    let stop : c.place.offset + 1 ≡ a.place.offset + length whole.used = omega (arith, moved, last) in
    let shown = last_unseen a x.stop inner.uses.lazy z (omega (arith, ap (λ (y : Spot). y.stop) x-is)) in
    reads_ok whole str_of string_spelled (λ bs. refl) (omega (arith, last, first_byte, offset_grows t.uses)) (Ok x) (λ token at. shown) tt (λ bs rest known. (x-is ∙ ap (λ (i : ℕ). at_stop i) stop, refl))
  where
    at_stop : ℕ → Spot
    at_stop i = record { item = Token (Str w); stop = i }

pub coded_part : {v : List ℕ} {a e : Window} {l m : Option (List ℕ)} {r : Result (Option ℕ) Halt} (k : Coded v a e l m r) → (p : Place) → Part {X = Unit {0}} (string_at Parts v) (λ _. string_at (Code k.code k.more) v) p a e l m (Ok tt)
coded_part {v} {a} {e} {l} {m} {r} k p = part_used (λ _. string_at (Code k.code k.more) v) p k.uses tt k.law
