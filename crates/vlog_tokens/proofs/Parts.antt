-- One part of a token after another.
use Rattle.std.proofs.Common.{◌≡◌, ℕ, suc, ◌+◌, ◌<◌, ◌≤◌, Bool, true, false, cond, ltb, List, [], ◌∷◌, ◌++◌, length, get_or, take, drop, Option, Some, None, Result, Ok, Err, refl, sym, ap, ◌∙◌, subst, arith, inl, inr, length-append, length-take, length-drop, append_assoc, add-zero}
use Rattle.std.proofs.lemmas.Bool.{ltb-true, ltb-false}
use Rattle.nl_base.specs.declared.place.Place.{Place}
use Rattle.nl_base.specs.declared.fault.Reason.{Reason}
use Rattle.nl_base.specs.declared.fault.ReadError.{ReadError}
use Rattle.nl_base.specs.declared.fault.ReadError.TheVariants.{Text, ReadFault, TooLong, NoMemory, Spent}
use Rattle.nl_base.specs.Place.{place_after, place_past}
use Rattle.nl_base.proofs.Places.{place_past-append, place_past-offset}
use Rattle.nl_bytes.specs.declared.bytes.TheConstants.{LIMIT}
use Rattle.nl_bytes.specs.declared.halt.Halt.{Halt}
use Rattle.nl_bytes.specs.declared.halt.Halt.TheVariants as halts
use Rattle.nl_bytes.specs.Halts.{error_of}
use Rattle.nl_bytes.specs.Bytes.{Window, Uses, TakesWhenUsed, IsAhead, input, first, given}
use Rattle.nl_bytes.proofs.Uses.{Uses-byte, Uses-none, Uses-trans}
use Rattle.nl_bytes.proofs.Known.{Uses-known, IsAhead-known}
use Rattle.nl_bytes.specs.Flaws.{Piece, Flaw, flaw, refusal}
use Rattle.vlog_tokens.specs.Parts.{Reaches, Answers, Meaning, Continues, Part}
use Rattle.vlog_tokens.specs.Scanning.{one_if}

pub here_at : {old new : Window} {l l' : Option (List ℕ)} {used : List ℕ} → Uses old new l l' used → (p : Place) (front : List ℕ) → old.place ≡ place_past p front → new.place ≡ place_past p (front ++ used)
here_at {old} {new} {l} {l'} {used} u p front begins = u.place ∙ ap (λ (q : Place). place_past q used) begins ∙ sym (place_past-append p front used)

pub offset_at : (w : Window) (p : Place) (front : List ℕ) → w.place ≡ place_past p front → w.place.offset ≡ p.offset + length front
offset_at w p front at = ap (λ (q : Place). q.offset) at ∙ place_past-offset p front

-- a refusal answers for the flaw at its place
pub refusal_answers : {A B : Type 0} (p : Place) (bs : List ℕ) (Gives : Piece A → B → Type 0) (reason : Reason) (before seen : ℕ) (here : Place) (stop : ℕ)
    → here ≡ place_past p (take before bs) → stop ≡ p.offset + seen → Answers {A = A} {B = B} p bs Gives (flaw {A = Piece A} reason before seen) (Err (refusal here stop reason))
refusal_answers {A} {B} p bs Gives reason before seen here stop at_place at_stop = go (ltb LIMIT stop) refl
  where
    go : (t : Bool) → ltb LIMIT stop ≡ t → Answers {A = A} {B = B} p bs Gives (flaw {A = Piece A} reason before seen) (Err (cond t TooLong (Text (record { place = here; stop = stop; reason = reason }))))
    go true e = omega (arith, ltb-true LIMIT stop e)
    go false e = (cc, omega (arith, ltb-false _ _ e))

pub halted : {A B : Type 0} (p : Place) (bs : List ℕ) (Gives : Piece A → B → Type 0) (meant : Result (Piece A) Flaw) (h : Halt) → (h ≡ halts.TooLong → Reaches p.offset (LIMIT + 1) meant) → Answers p bs Gives meant (Err (error_of h))
halted p bs Gives (Ok x) halts.Failed late = tt
halted p bs Gives (Err x) halts.Failed late = tt
halted p bs Gives (Ok x) halts.TooLong late = late refl
halted p bs Gives (Err x) halts.TooLong late = late refl
halted p bs Gives (Ok x) halts.NoMemory late = tt
halted p bs Gives (Err x) halts.NoMemory late = tt

-- only a read that fails is a read fault
pub failed_of : (h : Halt) → error_of h ≡ ReadFault → h ≡ halts.Failed
failed_of halts.Failed is = refl
failed_of halts.TooLong is = absurd cc
failed_of halts.NoMemory is = absurd cc

pub refusal_reads : (here : Place) (stop : ℕ) (reason : Reason) → refusal here stop reason ≡ ReadFault → ⊥
refusal_reads here stop reason is = go (ltb LIMIT stop) is
  where
    go : (t : Bool) → cond t TooLong (Text (record { place = here; stop = stop; reason = reason })) ≡ ReadFault → ⊥
    go true e = cc
    go false e = cc

-- an error answers, whatever would have been given
pub Answers-err : {A B C : Type 0} (p : Place) (bs : List ℕ) (G : Piece A → B → Type 0) (H : Piece A → C → Type 0) (x : Result (Piece A) Flaw) (e : ReadError)
    → Answers p bs G x (Err e) → Answers p bs H x (Err e)
Answers-err p bs G H (Ok x) (Text t) h = h
Answers-err p bs G H (Err f) (Text t) h = h
Answers-err p bs G H (Ok x) TooLong h = h
Answers-err p bs G H (Err f) TooLong h = h
Answers-err p bs G H (Ok x) ReadFault h = h
Answers-err p bs G H (Err f) ReadFault h = h
Answers-err p bs G H (Ok x) NoMemory h = h
Answers-err p bs G H (Err f) NoMemory h = h
Answers-err p bs G H (Ok x) Spent h = h
Answers-err p bs G H (Err f) Spent h = h

-- ---- parts

continues_by : {A X : Type 0} (p : Place) (bs cs : List ℕ) (x y : Result (Piece A) Flaw) (r : Result X ReadError) (next new : X → Result (Piece A) Flaw)
    → bs ≡ cs → x ≡ y → ((v : X) → next v ≡ new v) → Continues p bs x r next → Continues p cs y r new
continues_by p bs cs x y (Ok v) next new e f g h = sym f ∙ h ∙ g v
continues_by {A} {X} p bs cs x y (Err z) next new e f g h =
    subst (λ (m : Result (Piece A) Flaw). Answers {A = A} {B = ℕ} p cs (λ _ _. ⊥) m (Err z)) f (subst (λ (m : List ℕ). Answers {A = A} {B = ℕ} p m (λ _ _. ⊥) x (Err z)) e h)

some_is : (y z : List ℕ) → Some y ≡ Some z → y ≡ z
some_is y z e = cc

-- a part, and then another from there on
pub part_then : {A X Y : Type 0} {from : Meaning A} {mid : X → Meaning A} {to : Y → Meaning A} {p : Place} {a b c : Window} {l m n : Option (List ℕ)} {x : X} {r : Result Y ReadError}
    → Part from mid p a b l m (Ok x) → Part (mid x) to p b c m n r → Part from to p a c l n r
part_then {A} {X} {Y} {from} {mid} {to} {p} {a} {b} {c} {l} {m} {n} {x} {r} f t = record {
  used = f.used ++ t.used;
  uses = Uses-trans a b c l m n f.used t.used f.uses t.uses;
  means = λ front bs rest place known new_known parts.
      let k = Uses-known a b l m f.used bs f.uses known in
      let j = Uses-known b c m n t.used k.0 t.uses k.1 in
      let one = f.means front bs k.0 place known k.1 k.2 in
      let same : j.0 ≡ rest = some_is j.0 rest (sym j.1 ∙ new_known) in
      let two = t.means (front ++ f.used) k.0 rest (here_at f.uses p front place) k.1 new_known (j.2 ∙ ap (λ (xs : List ℕ). t.used ++ xs) same) in
      continues_by p ((front ++ f.used) ++ k.0) (front ++ bs) (mid x (length (front ++ f.used)) k.0) (from (length front) bs) r
      (λ v. to v (length (front ++ f.used) + length t.used) rest) (λ v. to v (length front + length (f.used ++ t.used)) rest)
      (append_assoc front f.used k.0 ∙ ap (λ (xs : List ℕ). front ++ xs) (sym k.2))
      (ap (λ (i : ℕ). mid x i k.0) (length-append front f.used) ∙ sym one)
      (λ v. ap (λ (i : ℕ). to v i rest) (omega (arith, length-append front f.used, length-append f.used t.used))) two;
  used_up = t.used_up;
}

-- bytes were used, and what they mean is known by computing
pub part_used : {A X : Type 0} {from : Meaning A} (to : X → Meaning A) (p : Place) {a b : Window} {l m : Option (List ℕ)} {used : List ℕ} → Uses a b l m used → (x : X)
    → ((n : ℕ) (rest : List ℕ) → from n (used ++ rest) ≡ to x (n + length used) rest) → Part from to p a b l m (Ok x)
part_used {A} {X} {from} to p {a} {b} {l} {m} {used} u x law = record {
  used = used;
  uses = u;
  means = λ front bs rest place known new_known parts. ap (from (length front)) parts ∙ law (length front) rest;
  used_up = tt;
}

-- nothing was used
pub part_none : {A X : Type 0} {from : Meaning A} (to : X → Meaning A) (p : Place) (w : Window) (l : Option (List ℕ)) (x : X)
    → ((n : ℕ) (rest : List ℕ) → from n rest ≡ to x n rest) → Part from to p w w l l (Ok x)
part_none {A} {X} {from} to p w l x law = part_used to p (Uses-none w l) x (λ n rest. law n rest ∙ ap (λ (i : ℕ). to x i rest) (sym (add-zero n)))

-- the byte ahead was used
pub record Steps (a b : Window) (byte : ℕ) : Type 0 where
  pub tail : List ℕ
  pub ahead : a.held ≡ byte ∷ tail
  pub held : b.held ≡ drop 1 a.held
  pub place : b.place ≡ place_after a.place (get_or a.held 0 0)

pub steps : {a b : Window} {byte : ℕ} {tail : List ℕ} → a.held ≡ byte ∷ tail → b.held ≡ drop 1 a.held → b.place ≡ place_after a.place (get_or a.held 0 0) → Steps a b byte
steps {a} {b} {byte} {tail} ahead held place = record { tail = tail; ahead = ahead; held = held; place = place }

pub steps_use : {a b : Window} {byte : ℕ} → Steps a b byte → (l : Option (List ℕ)) → Uses a b l l (byte ∷ [])
steps_use {a} {b} {byte} s l = Uses-byte a b l byte s.tail s.ahead s.held s.place

-- nothing is taken for it
pub steps_given : {a b : Window} {byte : ℕ} → Steps a b byte → given b ≡ given a
steps_given {a} {b} {byte} s =
    let offset : b.place.offset ≡ a.place.offset + 1 = ap (λ (q : Place). q.offset) s.place in
    let kept : length b.held ≡ length (drop 1 a.held) = ap (λ (xs : List ℕ). length xs) s.held in
    let some : length a.held ≡ suc (length s.tail) = ap (λ (xs : List ℕ). length xs) s.ahead in
    omega (arith, offset, kept, some, length-drop 1 a.held)

-- nothing is taken for bytes that are held
pub front_given : (a b : Window) (n : ℕ) → b.held ≡ drop n a.held → b.place ≡ place_past a.place (take n a.held) → given b ≡ given a
front_given a b n held place =
    let offset : b.place.offset ≡ a.place.offset + length (take n a.held) = ap (λ (q : Place). q.offset) place ∙ place_past-offset a.place (take n a.held) in
    let kept : length b.held ≡ length (drop n a.held) = ap (λ (xs : List ℕ). length xs) held in
    omega (arith, offset, kept, length-take n a.held, length-drop n a.held)

-- ---- nothing is taken for a stop within the bytes that were taken before

-- the stop is just past the byte ahead, or at the end
pub ahead_unseen : (a b : Window) (left : Option (List ℕ)) (next : Option ℕ) (stop : ℕ) → TakesWhenUsed a b → IsAhead b left next → stop ≡ b.place.offset + one_if next → stop ≤ given a → given b ≡ given a
ahead_unseen a b left next stop (inl same) ahead is le = same
ahead_unseen a b left None stop (inr used) ahead is le = omega (arith, used, is, le, ap (λ (xs : List ℕ). length xs) ahead.0)
ahead_unseen a b left (Some byte) stop (inr used) ahead is le = absurd (omega (arith, used, is, le))

-- the stop lies past the place at which the last byte was ahead
pub last_unseen : (a : Window) {b c : Window} {byte : ℕ} (stop : ℕ) → TakesWhenUsed a b → Steps b c byte → b.place.offset < stop → stop ≤ given a → given c ≡ given a
last_unseen a {b} {c} {byte} stop (inl same) s before le = steps_given s ∙ same
last_unseen a {b} {c} {byte} stop (inr used) s before le = absurd (omega (arith, used, before, le))

-- what was told of the part so far is told of the same meaning
pub part_to : {A X Y : Type 0} {from : Meaning A} {mid : X → Meaning A} (to : Y → Meaning A) {p : Place} {a b : Window} {l m : Option (List ℕ)} {x : X} (y : Y)
    → Part from mid p a b l m (Ok x) → ((n : ℕ) (rest : List ℕ) → mid x n rest ≡ to y n rest) → Part from to p a b l m (Ok y)
part_to {A} {X} {Y} {from} {mid} to {p} {a} {b} {l} {m} {x} y f law = record {
  used = f.used;
  uses = f.uses;
  means = λ front bs rest place known new_known parts. f.means front bs rest place known new_known parts ∙ law (length front + length f.used) rest;
  used_up = tt;
}

-- the same, where the next byte is known
pub part_ahead : {A X Y : Type 0} {from : Meaning A} {mid : X → Meaning A} (to : Y → Meaning A) {p : Place} {a b : Window} {l m : Option (List ℕ)} {x : X} (y : Y) (next : Option ℕ)
    → Part from mid p a b l m (Ok x) → IsAhead b m next → ((n : ℕ) (rest : List ℕ) → first rest ≡ next → mid x n rest ≡ to y n rest) → Part from to p a b l m (Ok y)
part_ahead {A} {X} {Y} {from} {mid} to {p} {a} {b} {l} {m} {x} y next f ahead law = record {
  used = f.used;
  uses = f.uses;
  means = λ front bs rest place known new_known parts. f.means front bs rest place known new_known parts ∙ law (length front + length f.used) rest (IsAhead-known b m next rest ahead new_known);
  used_up = tt;
}

-- after an error it plays no part where the reader would have been
pub part_err : {A X Y : Type 0} {from : Meaning A} {mid : X → Meaning A} {p : Place} {a b : Window} {l m : Option (List ℕ)} {e : ReadError} → Part from mid p a b l m (Err e) → (to : Y → Meaning A) → Part from to p a b l m (Err e)
part_err f to = record {
  used = f.used;
  uses = f.uses;
  means = λ front bs rest place known new_known parts. f.means front bs rest place known new_known parts;
  used_up = f.used_up;
}

pub reaches_late : {A : Type 0} (r : Result (Piece A) Flaw) (offset n : ℕ) → LIMIT < offset + n → Reaches 0 n r → Reaches offset (LIMIT + 1) r
reaches_late (Ok piece) offset n late h = (omega (arith, h.0), omega (arith, h.1))
reaches_late (Err f) offset n late h = omega (arith, h)

-- the reader of bytes halts; what the bytes mean is seen from no fewer bytes than were read
pub part_halted : {A X Y : Type 0} {from : Meaning A} {mid : X → Meaning A} {p : Place} {old new : Window} {l m : Option (List ℕ)} {x : X}
    → Part from mid p old new l m (Ok x) → (to : Y → Meaning A) (h : Halt) → (h ≡ halts.TooLong → LIMIT < new.place.offset) → (h ≡ halts.Failed → new.held ≡ []) → ((n : ℕ) (rest : List ℕ) → Reaches 0 n (mid x n rest))
    → Part from to p old new l m (Err (error_of h))
part_halted {A} {X} {Y} {from} {mid} {p} {old} {new} {l} {m} {x} f to h late empty far = record {
  used = f.used;
  uses = f.uses;
  means = λ front bs rest place known new_known parts.
      let one = f.means front bs rest place known new_known parts in
      let seen = far (length front + length f.used) rest in
      let at = offset_at new p (front ++ f.used) (here_at f.uses p front place) in
      halted {A = A} {B = ℕ} p (front ++ bs) (λ _ _. ⊥) (from (length front) bs) h
      (λ is. let k = late is in rw one (reaches_late (mid x (length front + length f.used) rest) p.offset (length front + length f.used) (omega (arith, k, at, length-append front f.used)) seen));
  used_up = λ is. empty (failed_of h is);
}

-- memory runs out
pub part_no_memory : {A X Y : Type 0} {from : Meaning A} {mid : X → Meaning A} {p : Place} {old new : Window} {l m : Option (List ℕ)} {x : X}
    → Part from mid p old new l m (Ok x) → (to : Y → Meaning A) → Part from to p old new l m (Err NoMemory)
part_no_memory {A} {X} {Y} {from} {mid} {p} {old} {new} {l} {m} {x} f to = record {
  used = f.used;
  uses = f.uses;
  means = λ front bs rest place known new_known parts. halted {A = A} {B = ℕ} p (front ++ bs) (λ _ _. ⊥) (from (length front) bs) halts.NoMemory (λ is. absurd cc);
  used_up = λ is. absurd cc;
}

-- what is refused: how many bytes stand before its place, how many were seen, and why
pub record Refused {A : Type 0} (meant : Result (Piece A) Flaw) (p : Place) (whole : List ℕ) (here : Place) (stop : ℕ) (reason : Reason) : Type 0 where
  pub before : ℕ
  pub seen : ℕ
  pub meant_is : meant ≡ flaw reason before seen
  pub here_is : here ≡ place_past p (take before whole)
  pub stop_is : stop ≡ p.offset + seen

pub part_refused : {A X Y : Type 0} {from : Meaning A} {mid : X → Meaning A} {p : Place} {old new : Window} {l m : Option (List ℕ)} {x : X}
    → (f : Part from mid p old new l m (Ok x)) → (to : Y → Meaning A) (here : Place) (stop : ℕ) (reason : Reason)
    → ((front rest : List ℕ) → old.place ≡ place_past p front → new.place ≡ place_past p (front ++ f.used) → input new m ≡ Some rest
    → Refused (mid x (length (front ++ f.used)) rest) p ((front ++ f.used) ++ rest) here stop reason)
    → Part from to p old new l m (Err (refusal here stop reason))
part_refused {A} {X} {Y} {from} {mid} {p} {old} {new} {l} {m} {x} f to here stop reason why = record {
  used = f.used;
  uses = f.uses;
  means = λ front bs rest place known new_known parts.
      let one = f.means front bs rest place known new_known parts in
      let at = here_at f.uses p front place in
      let r = why front rest place at new_known in
      let whole : (front ++ f.used) ++ rest ≡ front ++ bs = append_assoc front f.used rest ∙ ap (λ (xs : List ℕ). front ++ xs) (sym parts) in
      let meant : flaw reason r.before r.seen ≡ from (length front) bs = sym r.meant_is ∙ ap (λ (k : ℕ). mid x k rest) (length-append front f.used) ∙ sym one in
      subst (λ (z : Result (Piece A) Flaw). Answers {A = A} {B = ℕ} p (front ++ bs) (λ _ _. ⊥) z (Err (refusal here stop reason))) meant
      (subst (λ (z : List ℕ). Answers {A = A} {B = ℕ} p z (λ _ _. ⊥) (flaw reason r.before r.seen) (Err (refusal here stop reason))) whole
      (refusal_answers {A = A} {B = ℕ} p ((front ++ f.used) ++ rest) (λ _ _. ⊥) reason r.before r.seen here stop r.here_is r.stop_is));
  used_up = λ is. absurd (refusal_reads here stop reason is);
}
