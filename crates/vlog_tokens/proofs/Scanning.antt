-- Bytes that go on in a token.
use Rattle.std.proofs.Common.{◌≡◌, ℕ, ◌+◌, ◌-◌, ◌<◌, ◌≤◌, Bool, true, false, cond, leb, List, [], ◌∷◌, ◌++◌, length, Option, Some, None, Result, Ok, Err, IsTrue, refl, sym, ap, ◌∙◌, subst, arith, length-append, append_assoc, append-nil, add-zero}
use Rattle.std.proofs.lemmas.Bool.{le-leb, lt-leb}
use Rattle.std.proofs.lemmas.List.{take_at}
use Rattle.nl_base.specs.declared.place.Place.{Place}
use Rattle.nl_base.specs.Place.{place_past}
use Rattle.nl_base.specs.declared.fault.Reason.{Reason}
use Rattle.nl_base.specs.declared.fault.Reason.TheVariants.{EndOfInput, BadByte, TokenTooLong}
use Rattle.nl_bytes.specs.declared.class.Class.{Class}
use Rattle.nl_bytes.specs.declared.class.Class.TheVariants.{NameByte, Graphic, NumberByte, WordByte}
use Rattle.nl_bytes.specs.declared.halt.Halt.{Halt}
use Rattle.nl_bytes.specs.Halts.{error_of}
use Rattle.nl_bytes.specs.Classes.{AreIn, in_class}
use Rattle.nl_bytes.specs.Bytes.{Window, Runs, IsAhead, input, first}
use Rattle.nl_bytes.proofs.Known.{IsAhead-known}
use Rattle.vlog_tokens.specs.declared.phase.Phase.{Phase}
use Rattle.vlog_tokens.specs.declared.phase.Phase.TheVariants.{Word, Escape, Escaped, Whole, Point, Fraction, Mark, Sign, Exponent, Prefix, Signed, Letter, Digits, Unknown, Grave, Directive}
use Rattle.vlog_tokens.specs.declared.phase.Step.{Step}
use Rattle.vlog_tokens.specs.declared.phase.Step.TheVariants.{Keep, Pass, Ends, Bad}
use Rattle.nl_bytes.specs.Flaws.{Piece, Flaw, flaw, refusal}
use Rattle.vlog_tokens.specs.Phases.{next_step, is_complete, most_of, class_of}
use Rattle.vlog_tokens.specs.Scanning.{Lexeme, scan_at, stepped, ended, Stays, after_byte, scanned}
use Rattle.vlog_tokens.specs.declared.scan.Scanned.{Scanned}
use Rattle.vlog_tokens.specs.Parts.{Reaches, Meaning, Part}
use Rattle.vlog_tokens.proofs.Parts.{Refused, part_none, part_used, part_refused, part_then, part_to, part_halted, Steps, steps_use, offset_at}

-- the bytes of the class keep the token in its phase
pub stays_class : (phase : Phase) (class : Class) → class_of phase ≡ Some class → (b : ℕ) → IsTrue (in_class class b) → next_step phase b ≡ Keep phase
unfolding class_of next_step
stays_class Word class e b h = let k : class ≡ NameByte = cc in let t : in_class NameByte b ≡ true = subst (λ (c : Class). in_class c b ≡ true) k h in rw t refl
stays_class Escaped class e b h = let k : class ≡ Graphic = cc in let t : in_class Graphic b ≡ true = subst (λ (c : Class). in_class c b ≡ true) k h in rw t refl
stays_class Whole class e b h = let k : class ≡ NumberByte = cc in let t : in_class NumberByte b ≡ true = subst (λ (c : Class). in_class c b ≡ true) k h in rw t refl
stays_class Fraction class e b h = let k : class ≡ NumberByte = cc in let t : in_class NumberByte b ≡ true = subst (λ (c : Class). in_class c b ≡ true) k h in rw t refl
stays_class Exponent class e b h = let k : class ≡ NumberByte = cc in let t : in_class NumberByte b ≡ true = subst (λ (c : Class). in_class c b ≡ true) k h in rw t refl
stays_class Directive class e b h = let k : class ≡ WordByte = cc in let t : in_class WordByte b ≡ true = subst (λ (c : Class). in_class c b ≡ true) k h in rw t refl
stays_class Escape class e b h = absurd cc
stays_class Point class e b h = absurd cc
stays_class Mark class e b h = absurd cc
stays_class Sign class e b h = absurd cc
stays_class Prefix class e b h = absurd cc
stays_class Signed class e b h = absurd cc
stays_class (Letter base) class e b h = absurd cc
stays_class (Digits base) class e b h = absurd cc
stays_class Unknown class e b h = absurd cc
stays_class Grave class e b h = absurd cc

pub keep_step : (phase next : Phase) (text : List ℕ) (n b : ℕ) (bs : List ℕ) → next_step phase b ≡ Keep next → length text < most_of phase → scan_at phase text n (b ∷ bs) ≡ scan_at next (text ++ b ∷ []) (n + 1) bs
unfolding scan_at
keep_step phase next text n b bs e lt = rw (e, lt-leb (most_of phase) (length text) lt) refl

-- as many bytes of the class as there is room for
pub scan_stays : (phase : Phase) (class : Class) → class_of phase ≡ Some class → (text used rest : List ℕ) (n : ℕ) → AreIn class used → length used ≤ most_of phase - length text
    → scan_at phase text n (used ++ rest) ≡ scan_at phase (text ++ used) (n + length used) rest
scan_stays phase class is text [] rest n all most = ap (λ (xs : List ℕ). scan_at phase xs n rest) (sym (append-nil text)) ∙ ap (λ (k : ℕ). scan_at phase (text ++ []) k rest) (sym (add-zero n))
scan_stays phase class is text (b ∷ bs) rest n all most =
    keep_step phase phase text n b (bs ++ rest) (stays_class phase class is b all.0) (omega arith)
    ∙ scan_stays phase class is (text ++ b ∷ []) bs rest (n + 1) all.1 (omega (arith, length-append text (b ∷ [])))
    ∙ ap (λ (xs : List ℕ). scan_at phase xs (n + 1 + length bs) rest) (append_assoc text (b ∷ []) bs) ∙ ap (λ (k : ℕ). scan_at phase (text ++ b ∷ bs) k rest) (omega arith)

pub class_stays : {phase : Phase} {class : Class} {m : ℕ} {old new : Window} {l l' : Option (List ℕ)} {before after : List ℕ} {r : Result (Option ℕ) Halt}
    → Runs class m old new l l' before after r → class_of phase ≡ Some class → m ≡ most_of phase - length before → Stays phase old new l l' before after r
class_stays {phase} {class} {m} {old} {new} {l} {l'} {before} {after} {r} k is most = record {
  used = k.used;
  uses = k.uses;
  same = λ n rest. scan_stays phase class is before k.used rest n k.each (omega (arith, k.bounded, most)) ∙ ap (λ (xs : List ℕ). scan_at phase xs (n + length k.used) rest) (sym k.added);
  ahead = k.ahead;
  within = k.within;
  too_long = k.too_long;
  used_up = k.used_up;
}

-- ---- how far a token is seen

pub reaches_less : {A : Type 0} (r : Result (Piece A) Flaw) (n : ℕ) → Reaches 0 (n + 1) r → Reaches 0 n r
reaches_less (Ok piece) n h = (omega (arith, h.0), omega (arith, h.1))
reaches_less (Err f) n h = omega (arith, h)

stepped_seen : (s : Step) (phase : Phase) (text : List ℕ) (n b : ℕ) (after : Phase → List ℕ → Result (Piece Lexeme) Flaw) → ((q : Phase) (kept : List ℕ) → Reaches 0 (n + 1) (after q kept)) → Reaches 0 n (stepped s phase text n b after)
stepped_seen (Keep q) phase text n b after h = go (leb (most_of phase) (length text))
  where
    go : (t : Bool) → Reaches 0 n (cond t (flaw TokenTooLong 0 (n + 1)) (after q (text ++ b ∷ [])))
    go true = omega arith
    go false = reaches_less _ n (h q (text ++ b ∷ []))
stepped_seen (Pass q) phase text n b after h = reaches_less _ n (h q text)
stepped_seen Ends phase text n b after h = (omega arith, omega arith)
stepped_seen Bad phase text n b after h = omega arith

pub scan_seen : (phase : Phase) (text : List ℕ) (n : ℕ) (bs : List ℕ) → Reaches 0 n (scan_at phase text n bs)
unfolding scan_at
scan_seen phase text n [] = go (is_complete phase)
  where
    go : (t : Bool) → Reaches 0 n (cond t (ended phase text n None) (flaw EndOfInput n n))
    go true = (omega arith, omega arith)
    go false = omega arith
scan_seen phase text n (b ∷ bs) = stepped_seen (next_step phase b) phase text n b (λ q kept. scan_at q kept (n + 1) bs) (λ q kept. scan_seen q kept (n + 1) bs)

-- ---- one byte

pub front_of : (bs : List ℕ) (b : ℕ) → first bs ≡ Some b → (tail : List ℕ) × (bs ≡ b ∷ tail)
front_of [] b e = absurd cc
front_of (c ∷ cs) b e = let h : c ≡ b = cc in (cs, ap (λ (x : ℕ). x ∷ cs) h)

pub none_of : (bs : List ℕ) → first bs ≡ None → bs ≡ []
none_of [] e = refl
none_of (c ∷ cs) e = absurd cc

at_front : (w : Window) (l : Option (List ℕ)) (next : Option ℕ) (rest : List ℕ) → IsAhead w l next → input w l ≡ Some rest → first rest ≡ next
at_front w l next rest ahead known = IsAhead-known w l next rest ahead known

-- a part of no bytes, where the next byte is known
pub looks : {A X : Type 0} {from : Meaning A} (to : X → Meaning A) (p : Place) (w : Window) (l : Option (List ℕ)) (next : Option ℕ) (x : X) → IsAhead w l next
    → ((n : ℕ) (rest : List ℕ) → first rest ≡ next → from n rest ≡ to x n rest) → Part from to p w w l l (Ok x)
looks {A} {X} {from} to p w l next x ahead law =
    let none = part_none {X = Unit {0}} {from = from} (λ _. from) p w l tt (λ n rest. refl) in
    record {
      used = none.used;
      uses = none.uses;
      means = λ front bs rest place known new_known parts.
          none.means front bs rest place known new_known parts ∙ law (length front + length none.used) rest (at_front w l next rest ahead new_known);
      used_up = tt;
    }

-- what is refused at the byte ahead, or at the end
pub refuses : {A X : Type 0} {from : Meaning A} (to : X → Meaning A) (p : Place) (w : Window) (l : Option (List ℕ)) (next : Option ℕ) → IsAhead w l next → (here : Place) (stop : ℕ) (reason : Reason)
    → ((front rest : List ℕ) → w.place ≡ place_past p front → first rest ≡ next → Refused (from (length front) rest) p (front ++ rest) here stop reason)
    → Part from to p w w l l (Err (refusal here stop reason))
refuses {A} {X} {from} to p w l next ahead here stop reason why =
    let none = part_none {X = Unit {0}} {from = from} (λ _. from) p w l tt (λ n rest. refl) in
    part_refused none to here stop reason (λ front rest old new known. why (front ++ none.used) rest new (at_front w l next rest ahead known))

-- the byte ahead is bad, at its own place
pub bad_here : {A : Type 0} (p : Place) (w : Window) (front rest : List ℕ) (m : Result (Piece A) Flaw) (reason : Reason) (more : ℕ) → w.place ≡ place_past p front → m ≡ flaw reason (length front) (length front + more)
    → Refused m p (front ++ rest) w.place (w.place.offset + more) reason
bad_here p w front rest m reason more at is = record {
  before = length front;
  seen = length front + more;
  meant_is = is;
  here_is = at ∙ ap (λ (xs : List ℕ). place_past p xs) (sym (take_at front rest (length front) refl));
  stop_is = omega (arith, offset_at w p front at);
}

-- the token is refused at its first byte
pub bad_first : {A : Type 0} (p : Place) (w : Window) (front rest : List ℕ) (m : Result (Piece A) Flaw) (reason : Reason) (more : ℕ) → w.place ≡ place_past p front → m ≡ flaw reason 0 (length front + more)
    → Refused m p (front ++ rest) p (w.place.offset + more) reason
bad_first p w front rest m reason more at is = record {
  before = 0;
  seen = length front + more;
  meant_is = is;
  here_is = refl;
  stop_is = omega (arith, offset_at w p front at);
}

abbrev pub After : Phase → List ℕ → Option Phase → ℕ → List ℕ → Result (Piece Lexeme) Flaw
After phase text then = after_byte then phase text

pub ends_complete : (phase : Phase) (text : List ℕ) (p : Place) (w : Window) (l : Option (List ℕ)) → IsAhead w l None → is_complete phase ≡ true → Part (scan_at phase text) (After phase text) p w w l l (Ok None)
unfolding scan_at
ends_complete phase text p w l ahead complete = looks (After phase text) p w l None None ahead (λ n rest e. rw (none_of rest e, complete) refl)

pub ends_early : (phase : Phase) (text kept : List ℕ) (p : Place) (w : Window) (l : Option (List ℕ)) → IsAhead w l None → is_complete phase ≡ false
    → Part (scan_at phase text) (After phase kept) p w w l l (Err (refusal w.place w.place.offset EndOfInput))
unfolding scan_at
ends_early phase text kept p w l ahead complete = refuses (After phase kept) p w l None ahead w.place w.place.offset EndOfInput (λ front rest at e.
    let r = bad_here p w front rest (scan_at phase text (length front) rest) EndOfInput 0 at (rw (none_of rest e, complete) (ap (λ (k : ℕ). flaw EndOfInput (length front) k) (sym (add-zero (length front))))) in
    record { before = r.before; seen = r.seen; meant_is = r.meant_is; here_is = r.here_is; stop_is = omega (arith, r.stop_is) })

pub byte_ends : (phase : Phase) (text : List ℕ) (p : Place) (w : Window) (l : Option (List ℕ)) (b : ℕ) → IsAhead w l (Some b) → next_step phase b ≡ Ends → Part (scan_at phase text) (After phase text) p w w l l (Ok None)
unfolding scan_at
byte_ends phase text p w l b ahead ends = looks (After phase text) p w l (Some b) None ahead (λ n rest e. let f = front_of rest b e in rw (f.1, ends) refl)

pub byte_bad : (phase : Phase) (text kept : List ℕ) (p : Place) (w : Window) (l : Option (List ℕ)) (b : ℕ) → IsAhead w l (Some b) → next_step phase b ≡ Bad
    → Part (scan_at phase text) (After phase kept) p w w l l (Err (refusal w.place (w.place.offset + 1) BadByte))
unfolding scan_at
byte_bad phase text kept p w l b ahead bad = refuses (After phase kept) p w l (Some b) ahead w.place (w.place.offset + 1) BadByte (λ front rest at e.
    let f = front_of rest b e in bad_here p w front rest (scan_at phase text (length front) rest) BadByte 1 at (rw (f.1, bad) refl))

pub byte_full : (phase next : Phase) (text kept : List ℕ) (p : Place) (w : Window) (l : Option (List ℕ)) (b : ℕ) → IsAhead w l (Some b) → next_step phase b ≡ Keep next → most_of phase ≤ length text
    → Part (scan_at phase text) (After phase kept) p w w l l (Err (refusal p (w.place.offset + 1) TokenTooLong))
unfolding scan_at
byte_full phase next text kept p w l b ahead keep full = refuses (After phase kept) p w l (Some b) ahead p (w.place.offset + 1) TokenTooLong (λ front rest at e.
    let f = front_of rest b e in bad_first p w front rest (scan_at phase text (length front) rest) TokenTooLong 1 at (rw (f.1, keep, le-leb (most_of phase) (length text) full) refl))

pub byte_kept : (phase next : Phase) (text kept : List ℕ) (p : Place) {a b : Window} {byte : ℕ} (l : Option (List ℕ)) → Steps a b byte → next_step phase byte ≡ Keep next → length text < most_of phase → kept ≡ text ++ byte ∷ []
    → Part (scan_at phase text) (After phase kept) p a b l l (Ok (Some next))
byte_kept phase next text kept p {a} {b} {byte} l s keep room is = part_used (After phase kept) p (steps_use s l) (Some next) (λ n rest. keep_step phase next text n byte rest keep room ∙ ap (λ (xs : List ℕ). scan_at next xs (n + 1) rest) (sym is))

pub byte_passed : (phase next : Phase) (text kept : List ℕ) (p : Place) {a b : Window} {byte : ℕ} (l : Option (List ℕ)) → Steps a b byte → next_step phase byte ≡ Pass next → kept ≡ text
    → Part (scan_at phase text) (After phase kept) p a b l l (Ok (Some next))
unfolding scan_at
byte_passed phase next text kept p {a} {b} {byte} l s pass is = part_used (After phase kept) p (steps_use s l) (Some next) (λ n rest. rw pass (ap (λ (xs : List ℕ). scan_at next xs (n + 1) rest) (sym is)))

-- what stays is a part
pub stays_part : {phase : Phase} {old new : Window} {l l' : Option (List ℕ)} {before after : List ℕ} {r : Result (Option ℕ) Halt} → Stays phase old new l l' before after r → (p : Place)
    → Part {X = Unit {0}} (scan_at phase before) (λ _. scan_at phase after) p old new l l' (Ok tt)
stays_part {phase} {old} {new} {l} {l'} {before} {after} s p = part_used (λ _. scan_at phase after) p s.uses tt s.same

abbrev at_err : Halt → Result (Option ℕ) Halt
at_err h = Err h

pub stays_halted : (begins : Phase) (text : List ℕ) {phase : Phase} {a b c : Window} {l m n : Option (List ℕ)} {before after : List ℕ} {h : Halt} {p : Place}
    → Part {X = Unit {0}} (scan_at begins text) (λ _. scan_at phase before) p a b l m (Ok tt) → Stays phase b c m n before after (Err h) → {X : Type 0} (to : X → Meaning Lexeme)
    → Part (scan_at begins text) to p a c l n (Err (error_of h))
stays_halted begins text {phase} {a} {b} {c} {l} {m} {n} {before} {after} {h} {p} f s {X} to =
    part_halted (part_then f (stays_part s p)) to h (λ is. s.too_long (ap at_err is)) (λ is. s.used_up (ap at_err is)) (λ k rest. scan_seen phase after k rest)

pub part_goes_on : {from : Meaning Lexeme} {phase : Phase} {text : List ℕ} {p : Place} {a b : Window} {l m : Option (List ℕ)} (next : Phase)
    → Part from (After phase text) p a b l m (Ok (Some next)) → Part {X = Unit {0}} from (λ _. scan_at next text) p a b l m (Ok tt)
part_goes_on {from} {phase} {text} {p} {a} {b} {l} {m} next f = part_to (λ _. scan_at next text) tt f (λ n rest. refl)

pub part_ended : {from : Meaning Lexeme} {phase : Phase} {text : List ℕ} {p : Place} {a b : Window} {l m : Option (List ℕ)}
    → Part from (After phase text) p a b l m (Ok None) → (x : Scanned) → x.phase ≡ phase → x.text.items ≡ text → Part from scanned p a b l m (Ok x)
part_ended {from} {phase} {text} {p} {a} {b} {l} {m} f x phase-is text-is = part_to scanned x f (λ n rest. rw (phase-is, text-is) refl)
