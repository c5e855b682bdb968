-- Strings, part by part.
use Rattle.std.proofs.Common.{◌≡◌, ℕ, ◌+◌, ◌-◌, ◌*◌, ◌<◌, ◌≤◌, Bool, true, false, cond, List, [], ◌∷◌, ◌++◌, length, Option, Some, None, Result, Ok, Err, refl, sym, ap, ◌∙◌, subst, arith, rules, take, length-append, append_assoc, append-nil, add-zero, eqb, ◌&&◌, drop, get_or}
use Rattle.std.specs.Char.{is_ascii_digit}
use Rattle.std.proofs.lemmas.Bool.{lt-ltb, le-ltb, le-leb, lt-leb, ne_eqb}
use Rattle.std.proofs.lemmas.List.{take-append-le, take_at}
use Rattle.std.specs.Prelude.{IfSome}
use Rattle.nl_base.specs.declared.place.Place.{Place}
use Rattle.nl_base.specs.declared.fault.Reason.{Reason}
use Rattle.nl_base.specs.declared.fault.Reason.TheVariants.{EndOfInput, BadByte, BadEscape, TokenTooLong}
use Rattle.nl_base.specs.declared.fault.ReadError.{ReadError}
use Rattle.nl_base.specs.Place.{place_after, place_past}
use Rattle.nl_bytes.specs.declared.class.Class.TheVariants.{Space, StringByte}
use Rattle.nl_bytes.specs.declared.halt.Halt.{Halt}
use Rattle.nl_bytes.specs.declared.halt.Halt.TheVariants as halts
use Rattle.nl_bytes.specs.declared.bytes.TheConstants.{LIMIT}
use Rattle.nl_bytes.specs.Halts.{error_of}
use Rattle.nl_bytes.specs.Classes.{AreIn, is_space, is_string_byte}
use Rattle.nl_bytes.specs.Bytes.{Window, Uses, Skips, Runs, IsAhead, input, first}
use Rattle.nl_bytes.proofs.Uses.{Uses-byte, Uses-none, Uses-trans}
use Rattle.nl_bytes.proofs.Known.{Uses-known, IsAhead-known}
use Rattle.edif_tokens.specs.Scan.{Answers, seen_of, Continues, ReadsPart}
use Rattle.edif_tokens.specs.Strings.{is_full, Codes, EndsCode}
use Rattle.nl_base.proofs.Places.{place_past-offset}
use Rattle.edif_tokens.proofs.Spans.{refusal_answers, refusal_reads, at_place, halted, halted_used_up}
use Rattle.nl_bytes.specs.Flaws.{Piece, Flaw, flaw, refusal}
use Rattle.edif_tokens.specs.Strings.{Within, Parts, Escape, Code, string_at, Digits}

code-digit : (start code n b : ℕ) (value rest : List ℕ) → is_ascii_digit b ≡ true → 10 * code + (b - 48) ≤ 255
    → string_at (Code start code) value n (b ∷ rest) ≡ string_at (Code start (10 * code + (b - 48))) value (n + 1) rest
unfolding string_at
code-digit start code n b value rest digit le = rw (digit, le-ltb 255 (10 * code + (b - 48)) le) refl

pub Digits-push : (begun : ℕ) (used : List ℕ) (code b next : ℕ) → Digits begun used code → is_ascii_digit b ≡ true → 10 * code + (b - 48) ≤ 255 → next ≡ 10 * code + (b - 48) → Digits begun (used ++ b ∷ []) next
Digits-push begun used code b next digits digit le is start n value rest =
    ap (string_at (Code start begun) value n) (append_assoc used (b ∷ []) rest) ∙ digits start n value (b ∷ rest)
    ∙ code-digit start code (n + length used) b value rest digit le
    ∙ ap (λ (c : ℕ). string_at (Code start c) value (n + length used + 1) rest) (sym is)
    ∙ ap (λ (k : ℕ). string_at (Code start next) value k rest) (omega (arith, length-append used (b ∷ [])))

-- ---- the algebra of parts

here_at : (p : Place) (old new : Window) (l l' : Option (List ℕ)) (front used : List ℕ) → Uses old new l l' used → old.place ≡ place_past p front → new.place ≡ place_past p (front ++ used)
here_at = at_place

continues_by : (p : Place) (bs cs : List ℕ) (x y : Result (Piece (List ℕ)) Flaw) (r : Result (Unit {0}) ReadError) (next new : Result (Piece (List ℕ)) Flaw)
    → bs ≡ cs → x ≡ y → next ≡ new → Continues p bs x r next → Continues p cs y r new
continues_by p bs cs x y r next new e f g h =
    subst (λ (z : Result (Piece (List ℕ)) Flaw). Continues p cs y r z) g (subst (λ (z : Result (Piece (List ℕ)) Flaw). Continues p cs z r next) f (subst (λ (z : List ℕ). Continues p z x r next) e h))

pub part_trans : {from mid to : ℕ → Within} {p start : Place} {a b c : Window} {l m n : Option (List ℕ)} {v w x : List ℕ} {u : Unit {0}} {r : Result (Unit {0}) ReadError}
    → ReadsPart from mid p start a b l m v w (Ok u) → ReadsPart mid to p start b c m n w x r → ReadsPart from to p start a c l n v x r
part_trans {from} {mid} {to} {p} {start} {a} {b} {c} {l} {m} {n} {v} {w} {x} {u} {r} f t = record {
  used = f.used ++ t.used;
  uses = Uses-trans a b c l m n f.used t.used f.uses t.uses;
  used_up = t.used_up;
  spelled = λ front bs rest s le st place known new_known parts.
      let k = Uses-known a b l m f.used bs f.uses known in
      let j = Uses-known b c m n t.used k.0 t.uses k.1 in
      let one = f.spelled front bs k.0 s le st place known k.1 k.2 in
      let same : j.0 ≡ rest = some_is j.0 rest (sym j.1 ∙ new_known) in
      let two = t.spelled (front ++ f.used) k.0 rest s (omega (arith, length-append front f.used)) (st ∙ ap (λ (xs : List ℕ). place_past p xs) (sym (take-append-le s front f.used le)))
      (here_at p a b l m front f.used f.uses place) k.1 new_known (j.2 ∙ ap (λ (xs : List ℕ). t.used ++ xs) same) in
      join front bs k.0 rest (ap (λ (xs : List ℕ). front ++ xs) k.2 ∙ sym (append_assoc front f.used k.0)) s one two;
}
  where
    some_is : (y z : List ℕ) → Some y ≡ Some z → y ≡ z
    some_is y z e = cc

    join : (front bs rest1 rest : List ℕ) → front ++ bs ≡ (front ++ f.used) ++ rest1 → (s : ℕ)
        → string_at (from s) v (length front) bs ≡ string_at (mid s) w (length front + length f.used) rest1
        → Continues p ((front ++ f.used) ++ rest1) (string_at (mid s) w (length (front ++ f.used)) rest1) r (string_at (to s) x (length (front ++ f.used) + length t.used) rest)
        → Continues p (front ++ bs) (string_at (from s) v (length front) bs) r (string_at (to s) x (length front + length (f.used ++ t.used)) rest)
    join front bs rest1 rest whole s one two =
        continues_by p ((front ++ f.used) ++ rest1) (front ++ bs) (string_at (mid s) w (length (front ++ f.used)) rest1) (string_at (from s) v (length front) bs) r
        (string_at (to s) x (length (front ++ f.used) + length t.used) rest) (string_at (to s) x (length front + length (f.used ++ t.used)) rest)
        (sym whole) (ap (λ (k : ℕ). string_at (mid s) w k rest1) (length-append front f.used) ∙ sym one)
        (ap (λ (k : ℕ). string_at (to s) x k rest) (omega (arith, length-append front f.used, length-append f.used t.used))) two

-- ---- how far a string is seen

cond_seen : (n : ℕ) (t : Bool) (x y : Result (Piece (List ℕ)) Flaw) → n ≤ seen_of x → n ≤ seen_of y → n ≤ seen_of (cond t x y)
cond_seen n true x y p q = p
cond_seen n false x y p q = q

le_from_next : (n m : ℕ) → n + 1 ≤ m → n ≤ m
le_from_next n m h = omega arith

string_seen : (m : Within) (value : List ℕ) (n : ℕ) (bs : List ℕ) → n ≤ seen_of (string_at m value n bs)
unfolding string_at
string_seen Parts value n [] = omega arith
string_seen (Escape s coded) value n [] = omega arith
string_seen (Code s code) value n [] = search (rules, cond_seen)
string_seen Parts value n (b ∷ bs) =
    let a = le_from_next n _ (string_seen (Escape n false) value (n + 1) bs) in
    let c = le_from_next n _ (string_seen Parts (value ++ b ∷ []) (n + 1) bs) in
    search (rules, cond_seen)
string_seen (Escape s coded) value n (b ∷ bs) =
    let a = le_from_next n _ (string_seen (Escape s coded) value (n + 1) bs) in
    let c = le_from_next n _ (string_seen (Code s (b - 48)) value (n + 1) bs) in
    let d = le_from_next n _ (string_seen Parts value (n + 1) bs) in
    search (rules, cond_seen)
string_seen (Code s code) value n (b ∷ bs) =
    let a = le_from_next n _ (string_seen (Code s (10 * code + (b - 48))) value (n + 1) bs) in
    let c = le_from_next n _ (string_seen (Escape s true) (value ++ code ∷ []) (n + 1) bs) in
    let d = le_from_next n _ (string_seen Parts (value ++ code ∷ []) (n + 1) bs) in
    search (rules, cond_seen)

pub part_halted : {from mid : ℕ → Within} {p start : Place} {old new : Window} {l l' : Option (List ℕ)} {v w : List ℕ} {u : Unit {0}}
    → ReadsPart from mid p start old new l l' v w (Ok u) → (to : ℕ → Within) (x : List ℕ) (h : Halt) → (h ≡ halts.TooLong → LIMIT < new.place.offset) → (h ≡ halts.Failed → new.held ≡ [])
    → ReadsPart from to p start old new l l' v x (Err (error_of h))
part_halted {from} {mid} {p} {start} {old} {new} {l} {l'} {v} {w} f to x h late none = record {
  used = f.used;
  uses = f.uses;
  used_up = halted_used_up (Unit {0}) new h none;
  spelled = λ front bs rest s le st place known new_known parts.
      let one = f.spelled front bs rest s le st place known new_known parts in
      let far = string_seen (mid s) w (length front + length f.used) rest in
      let at = ap (λ (q : Place). q.offset) (here_at p old new l l' front f.used f.uses place) ∙ place_past-offset p (front ++ f.used) in
      halted p (front ++ bs) (λ _ _. ⊥) (string_at (from s) v (length front) bs) h (λ is. let k = late is in omega (arith, k, at, far, ap seen_of one, length-append front f.used));
}

pub part_refused : {from mid : ℕ → Within} {p start : Place} {old new : Window} {l l' : Option (List ℕ)} {v w : List ℕ} {u : Unit {0}}
    → ReadsPart from mid p start old new l l' v w (Ok u) → (to : ℕ → Within) (x : List ℕ) (here : Place) (stop : ℕ) (reason : Reason)
    → ((front rest : List ℕ) (s : ℕ) → s ≤ length front → start ≡ place_past p (take s front) → new.place ≡ place_past p front → input new l' ≡ Some rest
    → (k : ℕ) × (seen : ℕ) × (string_at (mid s) w (length front) rest ≡ flaw reason k seen) × (here ≡ place_past p (take k (front ++ rest))) × (stop ≡ p.offset + seen))
    → ReadsPart from to p start old new l l' v x (Err (refusal here stop reason))
part_refused {from} {mid} {p} {start} {old} {new} {l} {l'} {v} {w} f to x here stop reason why = record {
  used = f.used;
  uses = f.uses;
  used_up = λ h. absurd (refusal_reads (Unit {0}) here stop reason h);
  spelled = λ front bs rest s le st place known new_known parts.
      let one = f.spelled front bs rest s le st place known new_known parts in
      let at = here_at p old new l l' front f.used f.uses place in
      let r = why (front ++ f.used) rest s (omega (arith, length-append front f.used)) (st ∙ ap (λ (xs : List ℕ). place_past p xs) (sym (take-append-le s front f.used le))) at new_known in
      let whole : (front ++ f.used) ++ rest ≡ front ++ bs = append_assoc front f.used rest ∙ ap (λ (xs : List ℕ). front ++ xs) (sym parts) in
      let spelled : flaw reason r.0 r.1 ≡ string_at (from s) v (length front) bs = sym r.2 ∙ ap (λ (k : ℕ). string_at (mid s) w k rest) (length-append front f.used) ∙ sym one in
      subst (λ (z : Result (Piece (List ℕ)) Flaw). Answers {B = ℕ} p (front ++ bs) (λ _ _. ⊥) z (Err (refusal here stop reason))) spelled
      (subst (λ (z : List ℕ). Answers {A = List ℕ} {B = ℕ} p z (λ _ _. ⊥) (flaw reason r.0 r.1) (Err (refusal here stop reason))) whole
      (refusal_answers {A = List ℕ} {B = ℕ} p ((front ++ f.used) ++ rest) (λ _ _. ⊥) reason r.0 r.1 here stop r.3 r.4));
}

-- ---- codes

pub code_part : {begun : ℕ} {old new : Window} {l l' : Option (List ℕ)} {r : Result (Option ℕ) Halt} → (c : Codes begun old new l l' r) → (p start : Place) (v : List ℕ)
    → ReadsPart (λ s. Code s begun) (λ s. Code s c.code) p start old new l l' v v (Ok tt)
code_part {begun} {old} {new} {l} {l'} c p start v = record {
  used = c.used;
  uses = c.uses;
  used_up = λ h. absurd cc;
  spelled = λ front bs rest s le st place known new_known parts. ap (string_at (Code s begun) v (length front)) parts ∙ c.digits s (length front) v rest;
}

front_of : (bs : List ℕ) (b : ℕ) → first bs ≡ Some b → (tail : List ℕ) × (bs ≡ b ∷ tail)
front_of [] b e = absurd cc
front_of (c ∷ cs) b e = let h : c ≡ b = cc in (cs, ap (λ (x : ℕ). x ∷ cs) h)

code_over : (s code n b : ℕ) (v tail : List ℕ) → is_ascii_digit b ≡ true → 255 < 10 * code + (b - 48) → string_at (Code s code) v n (b ∷ tail) ≡ flaw BadEscape s (n + 1)
unfolding string_at
code_over s code n b v tail digit over = rw (digit, lt-ltb 255 (10 * code + (b - 48)) over) refl

code_ends_full : (s code n : ℕ) (v rest : List ℕ) (next : Option ℕ) → first rest ≡ next → IfSome next (λ b. is_ascii_digit b ≡ false) → is_full v ≡ true → string_at (Code s code) v n rest ≡ flaw TokenTooLong 0 n
unfolding string_at
code_ends_full s code n v [] next e other full = rw full refl
code_ends_full s code n v (b ∷ bs) next e other full = let d : is_ascii_digit b ≡ false = subst (λ (o : Option ℕ). IfSome o (λ b. is_ascii_digit b ≡ false)) (sym e) other in rw (d, full) refl

code_ends : (s code n : ℕ) (v rest : List ℕ) (next : Option ℕ) → first rest ≡ next → IfSome next (λ b. is_ascii_digit b ≡ false) → is_full v ≡ false
    → string_at (Code s code) v n rest ≡ string_at (Escape s true) (v ++ code ∷ []) n rest
unfolding string_at
code_ends s code n v [] next e other full = rw full refl
code_ends s code n v (b ∷ bs) next e other full = let d : is_ascii_digit b ≡ false = subst (λ (o : Option ℕ). IfSome o (λ b. is_ascii_digit b ≡ false)) (sym e) other in rw (d, full) refl

-- the next digit takes a code above 255
pub code_refused : {begun : ℕ} {old new : Window} {l l' : Option (List ℕ)} → Codes begun old new l l' (Ok None) → (p start : Place) (v x : List ℕ)
    → ReadsPart (λ s. Code s begun) (λ s. Escape s true) p start old new l l' v x (Err (refusal start (new.place.offset + 1) BadEscape))
code_refused {begun} {old} {new} {l} {l'} c p start v x = go c.ends.0 c.ends.1 c.ends.2
  where
    go : (next : Option ℕ) → IsAhead new l' next → EndsCode c.code None next → ReadsPart (λ s. Code s begun) (λ s. Escape s true) p start old new l l' v x (Err (refusal start (new.place.offset + 1) BadEscape))
    go None is_ahead ends = absurd ends
    go (Some b) is_ahead ends = part_refused (code_part c p start v) (λ s. Escape s true) x start (new.place.offset + 1) BadEscape (λ front rest s le st at known.
        let f = front_of rest b (IsAhead-known new l' (Some b) rest is_ahead known) in (
          s,
          length front + 1,
          ap (string_at (Code s c.code) v (length front)) f.1 ∙ code_over s c.code (length front) b v f.0 ends.0 ends.1,
          st ∙ ap (λ (xs : List ℕ). place_past p xs) (sym (take-append-le s front rest le)),
          omega (arith, ap (λ (q : Place). q.offset) at, place_past-offset p front),
        ))

-- the string is full before a code's value
pub code_full : {begun : ℕ} {old new : Window} {l l' : Option (List ℕ)} {a : ℕ} → Codes begun old new l l' (Ok (Some a)) → (p start : Place) (v x : List ℕ) → 1048576 ≤ length v
    → ReadsPart (λ s. Code s begun) (λ s. Escape s true) p start old new l l' v x (Err (refusal p new.place.offset TokenTooLong))
code_full {begun} {old} {new} {l} {l'} {a} c p start v x full = part_refused (code_part c p start v) (λ s. Escape s true) x p new.place.offset TokenTooLong (λ front rest s le st at known.
    let e = c.ends in
    (0, length front, code_ends_full s c.code (length front) v rest e.0 (IsAhead-known new l' e.0 rest e.1 known) e.2.1 (le-leb 1048576 (length v) full), refl, omega (arith, ap (λ (q : Place). q.offset) at, place_past-offset p front)))

pub code_added : {begun : ℕ} {old new : Window} {l l' : Option (List ℕ)} {a : ℕ} → Codes begun old new l l' (Ok (Some a)) → (p start : Place) (v x : List ℕ) → length v < 1048576 → x ≡ v ++ a ∷ []
    → ReadsPart (λ s. Code s begun) (λ s. Escape s true) p start old new l l' v x (Ok tt)
unfolding code_part
code_added {begun} {old} {new} {l} {l'} {a} c p start v x room added = record {
  used = c.used;
  uses = c.uses;
  used_up = λ h. absurd cc;
  spelled = λ front bs rest s le st place known new_known parts.
      let e = c.ends in
      let one = (code_part c p start v).spelled front bs rest s le st place known new_known parts in
      one ∙ code_ends s c.code (length front + length c.used) v rest e.0 (IsAhead-known new l' e.0 rest e.1 new_known) e.2.1 (lt-leb 1048576 (length v) room)
      ∙ ap (λ (xs : List ℕ). string_at (Escape s true) xs (length front + length c.used) rest) (ap (λ (k : ℕ). v ++ k ∷ []) (sym e.2.0) ∙ sym added);
}

-- ---- escapes

pub part_none : (from : ℕ → Within) (p start : Place) (w : Window) (l : Option (List ℕ)) (v : List ℕ) → ReadsPart from from p start w w l l v v (Ok tt)
part_none from p start w l v = record {
  used = [];
  uses = Uses-none w l;
  used_up = λ h. absurd cc;
  spelled = λ front bs rest s le st place known new_known parts. ap (string_at (from s) v (length front)) parts ∙ ap (λ (k : ℕ). string_at (from s) v k rest) (sym (add-zero (length front)));
}

-- the byte ahead is used
pub part_byte : (from to : ℕ → Within) (p start : Place) (a b : Window) (l : Option (List ℕ)) (v : List ℕ) (byte : ℕ) (tail : List ℕ)
    → a.held ≡ byte ∷ tail → b.held ≡ drop 1 a.held → b.place ≡ place_after a.place (get_or a.held 0 0)
    → ((s n : ℕ) (rest : List ℕ) → string_at (from s) v n (byte ∷ rest) ≡ string_at (to s) v (n + 1) rest)
    → ReadsPart from to p start a b l l v v (Ok tt)
part_byte from to p start a b l v byte tail ahead held place step = record {
  used = byte ∷ [];
  uses = Uses-byte a b l byte tail ahead held place;
  used_up = λ h. absurd cc;
  spelled = λ front bs rest s le st at known new_known parts. ap (string_at (from s) v (length front)) parts ∙ step s (length front) rest;
}

escape_space : (s n : ℕ) (coded : Bool) (v used rest : List ℕ) → AreIn Space used → string_at (Escape s coded) v n (used ++ rest) ≡ string_at (Escape s coded) v (n + length used) rest
unfolding string_at
escape_space s n coded v [] rest all = ap (λ (k : ℕ). string_at (Escape s coded) v k rest) (sym (add-zero n))
escape_space s n coded v (b ∷ bs) rest all = rw all.0 (escape_space s (n + 1) coded v bs rest all.1 ∙ ap (λ (k : ℕ). string_at (Escape s coded) v k rest) (omega arith))

pub part_space : {old new : Window} {l l' : Option (List ℕ)} {r : Result (Option ℕ) Halt} → Skips Space old new l l' r → (coded : Bool) (p start : Place) (v : List ℕ)
    → ReadsPart (λ s. Escape s coded) (λ s. Escape s coded) p start old new l l' v v (Ok tt)
part_space {old} {new} {l} {l'} {r} k coded p start v = record {
  used = k.used;
  uses = k.uses;
  used_up = λ h. absurd cc;
  spelled = λ front bs rest s le st place known new_known parts. ap (string_at (Escape s coded) v (length front)) parts ∙ escape_space s (length front) coded v k.used rest k.each;
}

pub escape_digit : (coded : Bool) (b : ℕ) (v : List ℕ) → is_space b ≡ false → is_ascii_digit b ≡ true → (s n : ℕ) (rest : List ℕ) → string_at (Escape s coded) v n (b ∷ rest) ≡ string_at (Code s (b - 48)) v (n + 1) rest
unfolding string_at
escape_digit coded b v space digit s n rest = rw (space, digit) refl

pub escape_closes : (b : ℕ) (v : List ℕ) → is_space b ≡ false → is_ascii_digit b ≡ false → eqb b 37 ≡ true → (s n : ℕ) (rest : List ℕ) → string_at (Escape s true) v n (b ∷ rest) ≡ string_at Parts v (n + 1) rest
unfolding string_at
escape_closes b v space digit percent s n rest = rw (space, digit, percent) refl

none_of : (bs : List ℕ) → first bs ≡ None → bs ≡ []
none_of [] e = refl
none_of (c ∷ cs) e = absurd cc

-- the input ends
pub part_ends : {from mid : ℕ → Within} {p start : Place} {old new : Window} {l l' : Option (List ℕ)} {v w : List ℕ} {u : Unit {0}}
    → ReadsPart from mid p start old new l l' v w (Ok u) → (to : ℕ → Within) (x : List ℕ) → IsAhead new l' None
    → ((s n : ℕ) → string_at (mid s) w n [] ≡ flaw EndOfInput n n)
    → ReadsPart from to p start old new l l' v x (Err (refusal new.place new.place.offset EndOfInput))
part_ends {from} {mid} {p} {start} {old} {new} {l} {l'} {v} {w} f to x at_end why = part_refused f to x new.place new.place.offset EndOfInput (λ front rest s le st at known.
    let e = none_of rest (IsAhead-known new l' None rest at_end known) in (
      length front,
      length front,
      ap (λ (xs : List ℕ). string_at (mid s) w (length front) xs) e ∙ why s (length front),
      at ∙ ap (λ (xs : List ℕ). place_past p xs) (sym (take_at front rest (length front) refl)),
      omega (arith, ap (λ (q : Place). q.offset) at, place_past-offset p front),
    ))

pub escape_end : (coded : Bool) (v : List ℕ) (s n : ℕ) → string_at (Escape s coded) v n [] ≡ flaw EndOfInput n n
unfolding string_at
escape_end coded v s n = refl

-- a byte stands in an escape that may not
pub escape_refused : {from : ℕ → Within} {coded : Bool} {p start : Place} {old new : Window} {l l' : Option (List ℕ)} {v w : List ℕ} {u : Unit {0}}
    → ReadsPart from (λ s. Escape s coded) p start old new l l' v w (Ok u) → (to : ℕ → Within) (x : List ℕ) (b : ℕ) → IsAhead new l' (Some b)
    → is_space b ≡ false → is_ascii_digit b ≡ false → (coded && eqb b 37) ≡ false
    → ReadsPart from to p start old new l l' v x (Err (refusal start (new.place.offset + 1) BadEscape))
unfolding string_at
escape_refused {from} {coded} {p} {start} {old} {new} {l} {l'} {v} {w} f to x b is_ahead space digit percent = part_refused f to x start (new.place.offset + 1) BadEscape (λ front rest s le st at known.
    let t = front_of rest b (IsAhead-known new l' (Some b) rest is_ahead known) in
    let bad : string_at (Escape s coded) w (length front) (b ∷ t.0) ≡ flaw BadEscape s (length front + 1) = rw (space, digit, percent) refl in (
      s,
      length front + 1,
      ap (string_at (Escape s coded) w (length front)) t.1 ∙ bad,
      st ∙ ap (λ (xs : List ℕ). place_past p xs) (sym (take-append-le s front rest le)),
      omega (arith, ap (λ (q : Place). q.offset) at, place_past-offset p front),
    ))

-- after an error it doesn't matter where the reader would have been
pub part_err : {from to : ℕ → Within} {p start : Place} {old new : Window} {l l' : Option (List ℕ)} {v x : List ℕ} {e : ReadError}
    → ReadsPart from to p start old new l l' v x (Err e) → (other : ℕ → Within) (y : List ℕ) → ReadsPart from other p start old new l l' v y (Err e)
part_err f other y = record {
  used = f.used;
  uses = f.uses;
  used_up = f.used_up;
  spelled = λ front bs rest s le st place known new_known parts. f.spelled front bs rest s le st place known new_known parts;
}

-- ---- parts

plain_not : (b : ℕ) → is_string_byte b ≡ true → (eqb b 34 ≡ false) × (eqb b 37 ≡ false)
plain_not b plain = (
  ne_eqb b 34 (λ e. let h : is_string_byte 34 ≡ true = subst (λ (x : ℕ). is_string_byte x ≡ true) e plain in absurd cc),
  ne_eqb b 37 (λ e. let h : is_string_byte 37 ≡ true = subst (λ (x : ℕ). is_string_byte x ≡ true) e plain in absurd cc),
)

plain_run : (v used rest : List ℕ) (n : ℕ) → AreIn StringByte used → length used ≤ 1048576 - length v → string_at Parts v n (used ++ rest) ≡ string_at Parts (v ++ used) (n + length used) rest
unfolding string_at
plain_run v [] rest n all most = ap (λ (xs : List ℕ). string_at Parts xs n rest) (sym (append-nil v)) ∙ ap (λ (k : ℕ). string_at Parts (v ++ []) k rest) (sym (add-zero n))
plain_run v (b ∷ bs) rest n all most =
    let p = plain_not b all.0 in
    let quote = p.0 in
    let percent = p.1 in
    let plain = all.0 in
    let full : is_full v ≡ false = lt-leb 1048576 (length v) (omega arith) in
    rw (plain, quote, percent, full) (plain_run (v ++ b ∷ []) bs rest (n + 1) all.1 (omega (arith, length-append v (b ∷ [])))
    ∙ ap (λ (xs : List ℕ). string_at Parts xs (n + 1 + length bs) rest) (append_assoc v (b ∷ []) bs) ∙ ap (λ (k : ℕ). string_at Parts (v ++ b ∷ bs) k rest) (omega arith))

pub plain_part : {m : ℕ} {old new : Window} {l l' : Option (List ℕ)} {v w : List ℕ} {r : Result (Option ℕ) Halt} → Runs StringByte m old new l l' v w r → m ≡ 1048576 - length v → (p start : Place)
    → ReadsPart (λ s. Parts) (λ s. Parts) p start old new l l' v w (Ok tt)
plain_part {m} {old} {new} {l} {l'} {v} {w} {r} k m-is p start = record {
  used = k.used;
  uses = k.uses;
  used_up = λ h. absurd cc;
  spelled = λ front bs rest s le st place known new_known parts. ap (string_at Parts v (length front)) parts
      ∙ plain_run v k.used rest (length front) k.each (omega (arith, k.bounded)) ∙ ap (λ (xs : List ℕ). string_at Parts xs (length front + length k.used) rest) (sym k.added);
}

pub parts_end : (v : List ℕ) (s n : ℕ) → string_at Parts v n [] ≡ flaw EndOfInput n n
unfolding string_at
parts_end v s n = refl

-- a plain byte too many
pub parts_full : {from : ℕ → Within} {p start : Place} {old new : Window} {l l' : Option (List ℕ)} {v w : List ℕ} {u : Unit {0}}
    → ReadsPart from (λ s. Parts) p start old new l l' v w (Ok u) → (to : ℕ → Within) (x : List ℕ) (b : ℕ) → IsAhead new l' (Some b) → is_string_byte b ≡ true → 1048576 ≤ length w
    → ReadsPart from to p start old new l l' v x (Err (refusal p (new.place.offset + 1) TokenTooLong))
unfolding string_at
parts_full {from} {p} {start} {old} {new} {l} {l'} {v} {w} f to x b is_ahead plain most = part_refused f to x p (new.place.offset + 1) TokenTooLong (λ front rest s le st at known.
    let t = front_of rest b (IsAhead-known new l' (Some b) rest is_ahead known) in
    let n = plain_not b plain in
    let quote = n.0 in
    let percent = n.1 in
    let full : is_full w ≡ true = le-leb 1048576 (length w) most in
    let bad : string_at Parts w (length front) (b ∷ t.0) ≡ flaw TokenTooLong 0 (length front + 1) = rw (plain, quote, percent, full) refl in
    (0, length front + 1, ap (string_at Parts w (length front)) t.1 ∙ bad, refl, omega (arith, ap (λ (q : Place). q.offset) at, place_past-offset p front)))

-- a byte that may not stand in a string
pub parts_bad : {from : ℕ → Within} {p start : Place} {old new : Window} {l l' : Option (List ℕ)} {v w : List ℕ} {u : Unit {0}}
    → ReadsPart from (λ s. Parts) p start old new l l' v w (Ok u) → (to : ℕ → Within) (x : List ℕ) (b : ℕ) → IsAhead new l' (Some b) → eqb b 34 ≡ false → eqb b 37 ≡ false → is_string_byte b ≡ false
    → ReadsPart from to p start old new l l' v x (Err (refusal new.place (new.place.offset + 1) BadByte))
unfolding string_at
parts_bad {from} {p} {start} {old} {new} {l} {l'} {v} {w} f to x b is_ahead quote percent plain = part_refused f to x new.place (new.place.offset + 1) BadByte (λ front rest s le st at known.
    let t = front_of rest b (IsAhead-known new l' (Some b) rest is_ahead known) in
    let bad : string_at Parts w (length front) (b ∷ t.0) ≡ flaw BadByte (length front) (length front + 1) = rw (plain, quote, percent) refl in (
      length front,
      length front + 1,
      ap (string_at Parts w (length front)) t.1 ∙ bad,
      at ∙ ap (λ (xs : List ℕ). place_past p xs) (sym (take_at front rest (length front) refl)),
      omega (arith, ap (λ (q : Place). q.offset) at, place_past-offset p front),
    ))

percent_step : (v : List ℕ) (n : ℕ) (rest : List ℕ) → string_at Parts v n (37 ∷ rest) ≡ string_at (Escape n false) v (n + 1) rest
unfolding string_at
percent_step v n rest = refl

-- an escape among the parts: its `%`, and what follows
pub parts_escape : {p : Place} {a b c : Window} {m n : Option (List ℕ)} {v w : List ℕ} {r : Result (Unit {0}) ReadError} {tail : List ℕ}
    → a.held ≡ 37 ∷ tail → b.held ≡ drop 1 a.held → b.place ≡ place_after a.place (get_or a.held 0 0) → ReadsPart (λ s. Escape s false) (λ s. Parts) p a.place b c m n v w r
    → (start : Place) → ReadsPart (λ s. Parts) (λ s. Parts) p start a c m n v w r
parts_escape {p} {a} {b} {c} {m} {n} {v} {w} {r} {tail} ahead held place t start =
    let byte = Uses-byte a b m 37 tail ahead held place in
    record {
      used = 37 ∷ [] ++ t.used;
      uses = Uses-trans a b c m m n (37 ∷ []) t.used byte t.uses;
      used_up = t.used_up;
      spelled = λ front bs rest s le st at known new_known parts.
          let k = Uses-known a b m m (37 ∷ []) bs byte known in
          let j = Uses-known b c m n t.used k.0 t.uses k.1 in
          let same : j.0 ≡ rest = some_is j.0 rest (sym j.1 ∙ new_known) in
          let two = t.spelled (front ++ 37 ∷ []) k.0 rest (length front) (omega (arith, length-append front (37 ∷ [])))
          (at ∙ ap (λ (xs : List ℕ). place_past p xs) (sym (take_at front (37 ∷ []) (length front) refl)))
          (here_at p a b m m front (37 ∷ []) byte at) k.1 new_known (j.2 ∙ ap (λ (xs : List ℕ). t.used ++ xs) same) in
          let one : string_at Parts v (length front) bs ≡ string_at (Escape (length front) false) v (length front + 1) k.0 = ap (string_at Parts v (length front)) k.2 ∙ percent_step v (length front) k.0 in
          continues_by p ((front ++ 37 ∷ []) ++ k.0) (front ++ bs) (string_at (Escape (length front) false) v (length (front ++ 37 ∷ [])) k.0) (string_at Parts v (length front) bs) r
          (string_at Parts w (length (front ++ 37 ∷ []) + length t.used) rest) (string_at Parts w (length front + length (37 ∷ [] ++ t.used)) rest)
          (append_assoc front (37 ∷ []) k.0 ∙ ap (λ (xs : List ℕ). front ++ xs) (sym k.2))
          (ap (λ (i : ℕ). string_at (Escape (length front) false) v i k.0) (length-append front (37 ∷ [])) ∙ sym one)
          (ap (λ (i : ℕ). string_at Parts w i rest) (omega (arith, length-append front (37 ∷ []), length-append (37 ∷ []) t.used))) two;
    }
  where
    some_is : (y z : List ℕ) → Some y ≡ Some z → y ≡ z
    some_is y z e = cc
