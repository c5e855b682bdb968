-- What a call answers, from what the calls in it answer.
use Rattle.std.proofs.Common.{◌≡◌, ℕ, ◌+◌, ◌<◌, ◌≤◌, Bool, true, false, List, [], ◌∷◌, ◌++◌, length, Option, Some, Result, Ok, Err, refl, sym, ap, ◌∙◌, subst, arith, get_or, drop, length-append}
use Rattle.std.specs.List.{prefix_len}
use Rattle.nl_base.specs.declared.place.Place.{Place}
use Rattle.nl_base.specs.declared.fault.ReadError.{ReadError}
use Rattle.nl_base.specs.declared.fault.ReadError.TheVariants.{Text, ReadFault, TooLong, NoMemory, Spent}
use Rattle.nl_bytes.specs.declared.class.Class.{Class}
use Rattle.nl_bytes.specs.Classes.{AreIn, in_class}
use Rattle.nl_base.specs.Place.{place_after}
use Rattle.nl_bytes.specs.Bytes.{Window, Uses, input}
use Rattle.nl_bytes.proofs.Uses.{Uses-trans, Uses-next}
use Rattle.nl_bytes.proofs.Known.{Uses-known}
use Rattle.edif_tokens.specs.declared.lexeme.Spanned.{Spanned}
use Rattle.edif_tokens.specs.declared.token.Found.{Found}
use Rattle.edif_values.specs.declared.token.Token.{Token}
use Rattle.edif_tokens.specs.Spelling.{Piece, Flaw, ◌>>=◌, span_at, text_of, text_at}
use Rattle.edif_tokens.specs.Language.{found_at}
use Rattle.edif_tokens.specs.Scan.{Answers, seen_of, IsLed, Leads, Spans, Begins, ReadsText}
use Rattle.edif_tokens.proofs.Spans.{GivesText, seen-text_of, text_unseen, of_error}

-- an error answers, whatever would have been given
pub Answers-err : {A B C : Type 0} (p : Place) (bs : List ℕ) (G : Piece A → B → Type 0) (H : Piece A → C → Type 0) (x : Result (Piece A) Flaw) (e : ReadError)
    → Answers p bs G x (Err e) → Answers p bs H x (Err e)
Answers-err p bs G H (Ok x) (Text t) h = h
Answers-err p bs G H (Err f) (Text t) h = h
Answers-err p bs G H (Ok x) TooLong h = h
Answers-err p bs G H (Err f) TooLong h = h
Answers-err p bs G H (Ok x) ReadFault h = h
Answers-err p bs G H (Err f) ReadFault h = h
Answers-err p bs G H (Ok x) NoMemory h = h
Answers-err p bs G H (Err f) NoMemory h = h
Answers-err p bs G H (Ok x) Spent h = h
Answers-err p bs G H (Err f) Spent h = h

-- what was given is passed on
pub Answers-ok : {A B C : Type 0} (p : Place) (bs : List ℕ) (G : Piece A → B → Type 0) (H : Piece A → C → Type 0) (x : Result (Piece A) Flaw) (y : B) (z : C)
    → ((piece : Piece A) → G piece y → H piece z) → Answers p bs G x (Ok y) → Answers p bs H x (Ok z)
Answers-ok p bs G H (Ok x) y z give h = give x h
Answers-ok p bs G H (Err f) y z give h = h

-- the same behind a step that sees no further
pub Answers-err-then : {A B C D : Type 0} (p : Place) (bs : List ℕ) (G : Piece A → B → Type 0) (H : Piece C → D → Type 0) (f : Piece A → Result (Piece C) Flaw) (x : Result (Piece A) Flaw) (e : ReadError)
    → ((piece : Piece A) → seen_of (f piece) ≡ piece.seen) → Answers p bs G x (Err e) → Answers p bs H (x >>= f) (Err e)
Answers-err-then {A} {B} {C} {D} p bs G H f (Ok x) e same h = go (f x) (same x) e h
  where
    go : (y : Result (Piece C) Flaw) → seen_of y ≡ x.seen → (e : ReadError) → Answers p bs G (Ok x) (Err e) → Answers p bs H y (Err e)
    go y s (Text t) h = absurd h
    go (Ok y) s TooLong h = omega (arith, s, h)
    go (Err y) s TooLong h = omega (arith, s, h)
    go (Ok y) s ReadFault h = tt
    go (Err y) s ReadFault h = tt
    go (Ok y) s NoMemory h = tt
    go (Err y) s NoMemory h = tt
    go y s Spent h = absurd h
Answers-err-then p bs G H f (Err x) (Text t) same h = h
Answers-err-then p bs G H f (Err x) TooLong same h = h
Answers-err-then p bs G H f (Err x) ReadFault same h = h
Answers-err-then p bs G H f (Err x) NoMemory same h = h
Answers-err-then p bs G H f (Err x) Spent same h = h

pub Answers-ok-then : {A B C D : Type 0} (p : Place) (bs : List ℕ) (G : Piece A → B → Type 0) (H : Piece C → D → Type 0) (f : Piece A → Result (Piece C) Flaw) (x : Result (Piece A) Flaw) (y : B) (r : Result D ReadError)
    → ((piece : Piece A) → G piece y → Answers p bs H (f piece) r) → Answers p bs G x (Ok y) → Answers p bs H (x >>= f) r
Answers-ok-then p bs G H f (Ok x) y r give h = give x h
Answers-ok-then p bs G H f (Err x) y r give h = absurd h

-- ---- texts

abbrev pub GivesSpanned : Place → List ℕ → Piece (List ℕ) → Spanned → Type 0
GivesSpanned p used piece x = (x.text ≡ piece.value) × (x.stop ≡ p.offset + piece.seen) × (piece.count ≡ length used)

seen-span_at : (class : ℕ → Bool) (bs : List ℕ) → 1 ≤ seen_of (span_at class 1 bs)
unfolding span_at
seen-span_at class bs = seen-text_of 1 _ bs (omega arith) (omega arith)

-- the byte that leads a text and the one behind it are used
pub begin_led : {class : Class} {byte b : ℕ} {p : Place} {old mid ahead new : Window} {l m : Option (List ℕ)} {t rest : List ℕ}
    → Uses old mid l l (byte ∷ []) → Uses mid ahead l m [] → ahead.held ≡ b ∷ rest → new.held ≡ drop 1 ahead.held → new.place ≡ place_after ahead.place (get_or ahead.held 0 0)
    → in_class class b ≡ true → t ≡ byte ∷ b ∷ [] → Begins class true byte p old new l m t (Ok tt)
begin_led {class} {byte} {b} {p} {old} {mid} {ahead} {new} {l} {m} {t} {rest} first_used look front held place inside text =
    let uses : Uses old new l m (byte ∷ b ∷ []) = Uses-next old mid ahead new l l m (byte ∷ []) b rest first_used look front held place in
    record {
      used = byte ∷ b ∷ [];
      uses = uses;
      ok = (sym text, (b, text, inside));
      used_up = λ h. absurd cc;
      answer = λ bs known piece some. let k = Uses-known old new l m (byte ∷ b ∷ []) bs uses known in rw (k.2, inside) refl;
    }

-- the byte that begins a text is refused
pub led_refused : {class : Class} {lead : Bool} {byte : ℕ} {p : Place} {old new : Window} {l l' : Option (List ℕ)} {after : List ℕ} {e : ReadError}
    → Begins class lead byte p old new l l' after (Err e) → ReadsText class lead p old new l l' (Err e)
led_refused {class} {lead} {byte} {p} {old} {new} {l} {l'} {after} {e} b = record {
  used = b.used;
  uses = b.uses;
  some = tt;
  shape = tt;
  unseen = tt;
  used_up = of_error e ReadFault b.used_up;
  answer = λ bs known. Answers-err {B = ℕ} p bs (λ _ _. ⊥) (GivesSpanned p b.used) (text_at (in_class class) lead bs) e (b.answer bs known (span_at (in_class class) 1 bs) (seen-span_at (in_class class) bs));
}

-- with the bytes that begin it a text is as long as from its first byte on
led_same : (class : Class) (lead : Bool) (byte : ℕ) (t rest : List ℕ) → Leads class lead byte t → span_at (in_class class) (length t) (t ++ rest) ≡ span_at (in_class class) 1 (t ++ rest)
unfolding span_at
led_same class false byte t rest h = rw h refl
led_same class true byte t rest h =
    let n : 2 + prefix_len (in_class class) rest ≡ 1 + prefix_len (in_class class) (h.0 ∷ rest) = rw h.2 (omega arith) in
    rw h.1 (ap (λ (k : ℕ). text_of k (byte ∷ h.0 ∷ rest)) n)

leads_some : (class : Class) (lead : Bool) (byte : ℕ) (t : List ℕ) → Leads class lead byte t → 0 < length t
leads_some class false byte t h = omega (arith, ap (λ (xs : List ℕ). length xs) h)
leads_some class true byte t h = omega (arith, ap (λ (xs : List ℕ). length xs) h.1)

led_shape : (class : Class) (lead : Bool) (byte : ℕ) (t used after : List ℕ) → Leads class lead byte t → AreIn class used → after ≡ t ++ used → length after ≤ 1024 → IsLed class lead byte after
led_shape class false byte t used after h each added short = record { rest = used; parts = added ∙ ap (λ (xs : List ℕ). xs ++ used) h; each = each; some = λ is. absurd cc; short = short }
led_shape class true byte t used after h each added short =
    record { rest = h.0 ∷ used; parts = added ∙ ap (λ (xs : List ℕ). xs ++ used) h.1; each = (h.2, each); some = λ is. omega arith; short = short }

-- a text was spelled behind the bytes that begin it
led_spells : {class : Class} {lead : Bool} {byte : ℕ} {p : Place} {old mid new : Window} {l m l' : Option (List ℕ)} {t after : List ℕ} {r : Result ℕ ReadError} {u : Unit {0}}
    → (b : Begins class lead byte p old mid l m t (Ok u)) → (s : Spans class p mid new m l' t after r)
    → (bs : List ℕ) → input old l ≡ Some bs → Answers p bs (GivesText p after) (text_at (in_class class) lead bs) r
led_spells {class} {lead} {byte} {p} {old} {mid} {new} {l} {m} {l'} {t} {after} {r} b s bs known =
    let k = Uses-known old mid l m b.used bs b.uses known in
    let whole : t ++ k.0 ≡ bs = ap (λ (x : List ℕ). x ++ k.0) (sym b.ok.0) ∙ sym k.2 in
    let step1 = subst (λ (x : Result (Piece (List ℕ)) Flaw). Answers p (t ++ k.0) (GivesText p after) x r) (led_same class lead byte t k.0 b.ok.1) (s.answer k.0 k.1) in
    let step2 = subst (λ (x : List ℕ). Answers p x (GivesText p after) (span_at (in_class class) 1 x) r) whole step1 in
    subst (λ (x : Result (Piece (List ℕ)) Flaw). Answers p bs (GivesText p after) x r) (sym (b.answer bs known (span_at (in_class class) 1 bs) (seen-span_at (in_class class) bs))) step2

pub gives_spanned : (p : Place) (after used : List ℕ) (y : Spanned) (stop : ℕ) → y.text ≡ after → y.stop ≡ stop → length after ≡ length used
    → (piece : Piece (List ℕ)) → GivesText p after piece stop → GivesSpanned p used piece y
gives_spanned p after used y stop text stop-is same piece g = (text ∙ sym g.0, stop-is ∙ g.2, g.1 ∙ same)

pub led_given : {class : Class} {lead : Bool} {byte : ℕ} {p : Place} {old mid new : Window} {l m l' : Option (List ℕ)} {t after : List ℕ} {stop : ℕ} {u : Unit {0}}
    → (b : Begins class lead byte p old mid l m t (Ok u)) → (s : Spans class p mid new m l' t after (Ok stop)) → {tail : List ℕ} → old.held ≡ byte ∷ tail → (y : Spanned) → y.text ≡ after → y.stop ≡ stop
    → ReadsText class lead p old new l l' (Ok y)
led_given {class} {lead} {byte} {p} {old} {mid} {new} {l} {m} {l'} {t} {after} {stop} b s {tail} ahead y text stop-is =
    let uses = Uses-trans old mid new l m l' b.used s.used b.uses s.uses in
    record {
      used = b.used ++ s.used;
      uses = uses;
      some = omega (arith, length-append b.used s.used, ap length b.ok.0, leads_some class lead byte t b.ok.1);
      shape = λ c rest held.
          let same : byte ≡ c = cc in
          subst (λ (first : ℕ). IsLed class lead first y.text) same (subst (λ (xs : List ℕ). IsLed class lead byte xs) (sym text) (led_shape class lead byte t s.used after b.ok.1 s.each s.added s.short));
      unseen = λ le. text_unseen old new stop uses.lazy uses.taken s.last (omega (arith, le, stop-is));
      used_up = λ h. absurd cc;
      answer = λ bs known. Answers-ok p bs (GivesText p after) (GivesSpanned p (b.used ++ s.used)) (text_at (in_class class) lead bs) stop y
          (gives_spanned p after (b.used ++ s.used) y stop text stop-is (ap length (s.added ∙ ap (λ (x : List ℕ). x ++ s.used) (sym b.ok.0)))) (led_spells b s bs known);
    }

pub led_halted : {class : Class} {lead : Bool} {byte : ℕ} {p : Place} {old mid new : Window} {l m l' : Option (List ℕ)} {t after : List ℕ} {e : ReadError} {u : Unit {0}}
    → (b : Begins class lead byte p old mid l m t (Ok u)) → (s : Spans class p mid new m l' t after (Err e)) → ReadsText class lead p old new l l' (Err e)
led_halted {class} {lead} {byte} {p} {old} {mid} {new} {l} {m} {l'} {t} {after} {e} b s = record {
  used = b.used ++ s.used;
  uses = Uses-trans old mid new l m l' b.used s.used b.uses s.uses;
  some = tt;
  shape = tt;
  unseen = tt;
  used_up = of_error e ReadFault s.used_up;
  answer = λ bs known. Answers-err p bs (GivesText p after) (GivesSpanned p (b.used ++ s.used)) (text_at (in_class class) lead bs) e (led_spells b s bs known);
}

-- want of memory answers, whatever would have been given
pub no_memory : {A B : Type 0} (p : Place) (bs : List ℕ) (G : Piece A → B → Type 0) (x : Result (Piece A) Flaw) → Answers p bs G x (Err NoMemory)
no_memory p bs G (Ok piece) = tt
no_memory p bs G (Err f) = tt

-- there is no memory for a text that was read
pub led_no_memory : {class : Class} {lead : Bool} {byte : ℕ} {p : Place} {old mid new : Window} {l m l' : Option (List ℕ)} {t after : List ℕ} {stop : ℕ} {u : Unit {0}}
    → Begins class lead byte p old mid l m t (Ok u) → Spans class p mid new m l' t after (Ok stop) → ReadsText class lead p old new l l' (Err NoMemory)
led_no_memory {class} {lead} {byte} {p} {old} {mid} {new} {l} {m} {l'} {t} {after} {stop} b s = record {
  used = b.used ++ s.used;
  uses = Uses-trans old mid new l m l' b.used s.used b.uses s.uses;
  some = tt;
  shape = tt;
  unseen = tt;
  used_up = λ h. absurd cc;
  answer = λ bs known. no_memory p bs (GivesSpanned p (b.used ++ s.used)) (text_at (in_class class) lead bs);
}

-- ---- tokens

abbrev pub GivesFound : Place → List ℕ → Piece Token → Found → Type 0
GivesFound p used piece f = (f ≡ found_at p piece) × (piece.count ≡ length used)
