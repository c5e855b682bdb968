-- A whole string: its quotes, and the parts between them.
use Rattle.std.proofs.Common.{◌≡◌, ℕ, ◌+◌, ◌<◌, List, [], ◌∷◌, ◌++◌, length, get_or, drop, Option, Result, Ok, Err, refl, sym, ap, ◌∙◌, subst, inl, inr, arith, length-append, length-drop}
use Rattle.nl_base.specs.declared.place.Place.{Place}
use Rattle.nl_base.specs.declared.fault.ReadError.{ReadError}
use Rattle.nl_base.specs.declared.fault.ReadError.TheVariants.{ReadFault, NoMemory}
use Rattle.nl_base.specs.Place.{place_after, place_past}
use Rattle.nl_bytes.specs.Bytes.{Window, Uses, TakesWhenUsed, given}
use Rattle.nl_bytes.proofs.Uses.{Uses-byte, Uses-trans, offset_grows}
use Rattle.nl_bytes.proofs.Known.{Uses-known}
use Rattle.edif_tokens.specs.declared.token.Found.{Found}
use Rattle.edif_values.specs.declared.token.Token.{Token}
use Rattle.edif_values.specs.declared.token.Token.TheVariants.{Str}
use Rattle.nl_bytes.specs.Flaws.{Piece, Flaw, ◌>>=◌}
use Rattle.edif_tokens.specs.Strings.{Parts, string_at}
use Rattle.edif_tokens.specs.Spelling.{string_spelled, str_of}
use Rattle.edif_tokens.specs.Language.{found_at}
use Rattle.edif_tokens.specs.Scan.{Answers, IsUnseen, ReadsPart, Reads}
use Rattle.edif_tokens.proofs.Answering.{Answers-err-then, no_memory}
use Rattle.edif_tokens.proofs.Spans.{of_error}

-- the byte at which a reader stands was used
pub record Steps (a b : Window) (byte : ℕ) : Type 0 where
  pub tail : List ℕ
  pub ahead : a.held ≡ byte ∷ tail
  pub held : b.held ≡ drop 1 a.held
  pub place : b.place ≡ place_after a.place (get_or a.held 0 0)

steps_use : {a b : Window} {byte : ℕ} → Steps a b byte → (l : Option (List ℕ)) → Uses a b l l (byte ∷ [])
steps_use {a} {b} {byte} s l = Uses-byte a b l byte s.tail s.ahead s.held s.place

-- it was taken before
steps_given : {a b : Window} {byte : ℕ} → Steps a b byte → (l : Option (List ℕ)) → given b ≡ given a
steps_given {a} {b} {byte} s l =
    omega (arith, offset_grows (steps_use s l), ap (λ (xs : List ℕ). length xs) s.held, length-drop 1 a.held, ap (λ (xs : List ℕ). length xs) s.ahead)

-- nothing was taken for a token whose last byte is ahead, where its stop lies within the bytes that were taken before
last_unseen : (a c d : Window) (stop : ℕ) → TakesWhenUsed a c → given d ≡ given c → c.place.offset < stop → IsUnseen stop a d
last_unseen a c d stop (inl same) kept ahead le = kept ∙ same
last_unseen a c d stop (inr used) kept ahead le = absurd (omega (arith, used, ahead, le))

closing : (w rest : List ℕ) (n : ℕ) → string_at Parts w n (34 ∷ rest) ≡ Ok (record { value = w; count = n + 1; seen = n + 1 })
unfolding string_at
closing w rest n = refl

abbrev GivesFound : Place → List ℕ → Piece Token → Found → Type 0
GivesFound p used piece f = (f ≡ found_at p piece) × (piece.count ≡ length used)

opened : {a b : Window} (p : Place) (m : Option (List ℕ)) → Steps a b 34 → p ≡ a.place → b.place ≡ place_past p (34 ∷ [])
opened p m s begins = (steps_use s m).place ∙ ap (λ (q : Place). place_past q (34 ∷ [])) (sym begins)

pub string_refused : {a b c : Window} {m n : Option (List ℕ)} {v w : List ℕ} {e : ReadError} (p : Place) (s : Steps a b 34) (empty : v ≡ []) (begins : p ≡ a.place) → ReadsPart (λ s. Parts) (λ s. Parts) p p b c m n v w (Err e) → Reads string_spelled p a c m n (Err e)
string_refused {a} {b} {c} {m} {n} {v} {w} {e} p s empty begins t = record {
  used = 34 ∷ [] ++ t.used;
  uses = Uses-trans a b c m m n (34 ∷ []) t.used (steps_use s m) t.uses;
  some = tt;
  unseen = tt;
  used_up = of_error e ReadFault t.used_up;
  answer = λ bs known.
      let k = Uses-known a b m m (34 ∷ []) bs (steps_use s m) known in
      let j = Uses-known b c m n t.used k.0 t.uses k.1 in
      let h = t.spelled (34 ∷ []) k.0 j.0 0 (omega arith) refl (opened p m s begins) k.1 j.1 j.2 in
      let h2 = subst (λ (x : List ℕ). Answers {A = List ℕ} {B = ℕ} p (34 ∷ [] ++ k.0) (λ _ _. ⊥) (string_at Parts x 1 k.0) (Err e)) empty h in
      let h3 = Answers-err-then {A = List ℕ} {B = ℕ} p (34 ∷ [] ++ k.0) (λ _ _. ⊥) (GivesFound p (34 ∷ [] ++ t.used)) str_of (string_at Parts [] 1 k.0) e (λ piece. refl) h2 in
      subst (λ (x : List ℕ). Answers p x (GivesFound p (34 ∷ [] ++ t.used)) (string_spelled x) (Err e)) (sym k.2) h3;
}

-- there is no memory for a string that was read
pub string_no_memory : {a b c d : Window} {m n : Option (List ℕ)} {v w : List ℕ} (p : Place) → Steps a b 34 → ReadsPart (λ s. Parts) (λ s. Parts) p p b c m n v w (Ok tt) → Steps c d 34
    → Reads string_spelled p a d m n (Err NoMemory)
string_no_memory {a} {b} {c} {d} {m} {n} p s t z = record {
  used = (34 ∷ [] ++ t.used) ++ 34 ∷ [];
  uses = Uses-trans a c d m n n (34 ∷ [] ++ t.used) (34 ∷ []) (Uses-trans a b c m m n (34 ∷ []) t.used (steps_use s m) t.uses) (steps_use z n);
  some = tt;
  unseen = tt;
  used_up = λ h. absurd cc;
  answer = λ bs known. no_memory p bs (GivesFound p ((34 ∷ [] ++ t.used) ++ 34 ∷ [])) (string_spelled bs);
}

pub string_given : {a b c d : Window} {m n : Option (List ℕ)} {v w : List ℕ} (p : Place) (s : Steps a b 34) (empty : v ≡ []) (begins : p ≡ a.place) → ReadsPart (λ s. Parts) (λ s. Parts) p p b c m n v w (Ok tt) → Steps c d 34 → (f : Found) → f ≡ record { place = p; stop = c.place.offset + 1; token = Str w }
    → Reads string_spelled p a d m n (Ok f)
string_given {a} {b} {c} {d} {m} {n} {v} {w} p s empty begins t z f f-is = record {
  used = (34 ∷ [] ++ t.used) ++ 34 ∷ [];
  uses = Uses-trans a c d m n n (34 ∷ [] ++ t.used) (34 ∷ []) (Uses-trans a b c m m n (34 ∷ []) t.used (steps_use s m) t.uses) (steps_use z n);
  some = omega arith;
  unseen = last_unseen a c d f.stop (Uses-trans a b c m m n (34 ∷ []) t.used (steps_use s m) t.uses).lazy (steps_given z n) (omega (arith, ap (λ (g : Found). g.stop) f-is));
  used_up = λ h. absurd cc;
  answer = λ bs known.
      let k = Uses-known a b m m (34 ∷ []) bs (steps_use s m) known in
      let j = Uses-known b c m n t.used k.0 t.uses k.1 in
      let i = Uses-known c d n n (34 ∷ []) j.0 (steps_use z n) j.1 in
      let h = t.spelled (34 ∷ []) k.0 j.0 0 (omega arith) refl (opened p m s begins) k.1 j.1 j.2 in
      let spelled : string_at Parts [] 1 k.0 ≡ Ok (record { value = w; count = 1 + length t.used + 1; seen = 1 + length t.used + 1 }) =
      ap (λ (x : List ℕ). string_at Parts x 1 k.0) (sym empty) ∙ h ∙ ap (string_at Parts w (1 + length t.used)) i.2 ∙ closing w i.0 (1 + length t.used) in
      let piece : Piece Token = record { value = Str w; count = 1 + length t.used + 1; seen = 1 + length t.used + 1 } in
      let stop : c.place.offset + 1 ≡ p.offset + (1 + length t.used + 1) = omega (arith, offset_grows t.uses, ap (λ (q : Place). q.offset) (opened p m s begins)) in
      let whole : string_spelled bs ≡ Ok piece = ap string_spelled k.2 ∙ ap (λ (x : Result (Piece (List ℕ)) Flaw). x >>= str_of) spelled in
      let gives : GivesFound p ((34 ∷ [] ++ t.used) ++ 34 ∷ []) piece f =
      (f-is ∙ ap (λ (x : ℕ). at_stop x) stop, omega (arith, length-append (34 ∷ [] ++ t.used) (34 ∷ []))) in
      subst (λ (x : Result (Piece Token) Flaw). Answers p bs (GivesFound p ((34 ∷ [] ++ t.used) ++ 34 ∷ [])) x (Ok f)) (sym whole) gives;
}
  where
    at_stop : ℕ → Found
    at_stop x = record { place = p; stop = x; token = Str w }
