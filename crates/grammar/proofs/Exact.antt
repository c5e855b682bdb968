-- The reading tells the text and the first fault, and these tell the reading.
use Rattle.std.proofs.Common.{◌≡◌, List, [], ◌∷◌, ◌++◌, length, Result, Ok, Err, refl, sym, ap, subst, ◌∙◌, append_assoc, arith, inl, inr}
use Rattle.std.proofs.lemmas.List.{length-append}
use Rattle.grammar.specs.Part.{Part}
use Rattle.grammar.specs.Texts.{Spells, Begins}
use Rattle.grammar.specs.Reading.{refused, ended, Found, read}
use Rattle.grammar.specs.Clear.{IsLive, IsClear, Bars}
use Rattle.grammar.specs.Faults.{GoesOnInto, Takes, Faults}
use Rattle.grammar.proofs.Laws.{Alike, Says, says}
use Rattle.grammar.proofs.Again.{again}
use Rattle.grammar.proofs.Onward.{Onward, onward}

abbrev ok : {A E : Type 0} → A → Result A E
ok x = Ok x

same_ok : {A E : Type 0} (x y : A) → ok {E = E} x ≡ ok y → x ≡ y
same_ok x y e = cc

pub ok_parts : {A B E : Type 0} (x y : A) (a b : B) (r : Result (A × B) E) → r ≡ Ok (x, a) → r ≡ Ok (y, b) → (x ≡ y) × (a ≡ b)
ok_parts x y a b r e f = let g = same_ok (x, a) (y, b) (sym e ∙ f) in (ap (λ (p : _ × _). p.0) g, ap (λ (p : _ × _). p.1) g)

pub ok_or_err : {V E : Type 0} (r : Result V E) (v : V) (e : E) → r ≡ Ok v → r ≡ Err e → ⊥
ok_or_err r v e h k = let g : Ok v ≡ Err e = sym h ∙ k in cc

pub err_parts : {A E : Type 0} (d e : E) (r : Result A E) → r ≡ Err d → r ≡ Err e → d ≡ e
err_parts d e r h k = let g : Err d ≡ Err e = sym h ∙ k in cc

pub stop_parts : {X R : Type 0} (x y : X) (q r : R) → refused x q ≡ refused y r → (x ≡ y) × (q ≡ r)
stop_parts x y q r e = (cc, cc)

-- of two ways to part a list, either the places are one, or one part begins the other
pub data Places {X : Type 0} (a : List X) (x : X) (c : List X) (b : List X) (y : X) (d : List X) : Type 0 where
  one_place : a ≡ b → x ≡ y → c ≡ d → Places a x c b y d
  before_it : (m : List X) → b ≡ (a ++ x ∷ []) ++ m → Places a x c b y d
  behind_it : (m : List X) → a ≡ (b ++ y ∷ []) ++ m → Places a x c b y d

places : {X : Type 0} (a : List X) (x : X) (c b : List X) (y : X) (d : List X) → a ++ x ∷ c ≡ b ++ y ∷ d → Places a x c b y d
places [] x c [] y d e = let k : x ≡ y = cc in let l : c ≡ d = cc in one_place refl k l
places [] x c (z ∷ b) y d e = let k : z ≡ x = cc in before_it b (ap (λ w. w ∷ b) k)
places (z ∷ a) x c [] y d e = let k : z ≡ y = cc in behind_it a (ap (λ w. w ∷ a) k)
places (z ∷ a) x c (w ∷ b) y d e = let k : z ≡ w = cc in let l : a ++ x ∷ c ≡ b ++ y ∷ d = cc in more k (places a x c b y d l)
  where
    more : z ≡ w → Places a x c b y d → Places (z ∷ a) x c (w ∷ b) y d
    more k (one_place e f g) = one_place (cc) f g
    more k (before_it m e) = before_it m (cc)
    more k (behind_it m e) = behind_it m (cc)

fewer_begins : {K X R A : Type 0} (κ : K) (p : Part K X R A) (a b m : List X) → b ≡ a ++ m → Begins κ p b → Begins κ p a
fewer_begins κ p a b m e h = (m ++ h.0, h.1, subst (λ (z : List _). Spells κ p z h.1) (ap (λ (z : List _). z ++ h.0) e ∙ append_assoc a m h.0) h.2)

-- what begins is read, up to the token that follows
module _ {K X R A : Type 0} (κ : K) (p : Part K X R A) (live : IsLive κ p) (last : X) (clear : IsClear κ p (λ _ x. x ≡ last)) where
  pub text_is_read : (ts d : List X) (v : A) → Spells κ p ts v → read κ p (ts ++ last ∷ d) ≡ Ok (v, last ∷ d)
  text_is_read ts d v h = again κ p (λ _ x. x ≡ last) clear ts last d v h refl

  -- One list of tokens spells at most one value.
  pub one_value : (ts : List X) (v w : A) → Spells κ p ts v → Spells κ p ts w → v ≡ w
  one_value ts v w h k = (ok_parts v w (last ∷ []) (last ∷ []) (read κ p (ts ++ last ∷ [])) (text_is_read ts [] v h) (text_is_read ts [] w k)).0

  begun : (a : List X) (x : X) → (h : Begins κ p (a ++ x ∷ [])) → read κ p (a ++ x ∷ (h.0 ++ last ∷ [])) ≡ Ok (h.1, last ∷ [])
  begun a x h = ap (read κ p) (sym (append_assoc (a ++ x ∷ []) h.0 (last ∷ []) ∙ append_assoc a (x ∷ []) (h.0 ++ last ∷ []))) ∙ text_is_read ((a ++ x ∷ []) ++ h.0) [] h.1 h.2

  says_by : (ts : List X) (r : Found X R A) → read κ p ts ≡ r → Says κ p ts r
  says_by ts r e = subst (Says κ p ts) e (says κ p live ts)

  too_long : (x : X) (m : List X) → x ∷ (m ++ last ∷ []) ≡ last ∷ [] → ⊥
  too_long x m e = omega (arith, ap length e, length-append m (last ∷ []))

  -- ---- the reading tells

  barred : (a : List X) (x : X) (r : R) (v : A) → read κ p (a ++ x ∷ []) ≡ Err (refused x r) → (Begins κ p (a ++ x ∷ []) → ⊥) → Onward κ p a v x → Bars κ p x r
  barred a x r v e stop (inl h) = absurd (ok_or_err (read κ p (a ++ x ∷ [])) (v, x ∷ []) (refused x r) (h []) e)
  barred a x r v e stop (inr (inl h)) = subst (λ z. Bars κ p x z) (stop_parts x x h.0 r (err_parts (refused x h.0) (refused x r) (read κ p (a ++ x ∷ [])) (h.1 []) e)).1 h.2
  barred a x r v e stop (inr (inr h)) = absurd (stop h)

  pub fault_from_read : (ts : List X) (x : X) (r : R) → read κ p ts ≡ Err (refused x r) → Faults κ p ts x r
  fault_from_read ts x r e =
      let h = says_by ts (Err (refused x r)) e in
      record {
        before = h.0;
        after = h.1;
        place = h.2;
        goes_on = h.3;
        stops = λ k. ok_or_err (read κ p (h.0 ++ x ∷ (k.0 ++ last ∷ []))) (k.1, last ∷ []) (refused x r) (begun h.0 x k) (h.4 (k.0 ++ last ∷ []));
        is_due = λ v k. barred h.0 x r v (h.4 []) (λ k. ok_or_err (read κ p (h.0 ++ x ∷ (k.0 ++ last ∷ []))) (k.1, last ∷ []) (refused x r) (begun h.0 x k) (h.4 (k.0 ++ last ∷ []))) (onward κ p (λ _ x. x ≡ last) clear live h.0 v x k);
        reason_is = h.4 [];
      }

  not_into : (a rest : List X) (v : A) → ((d : List X) → Alike rest d → read κ p (a ++ d) ≡ Ok (v, d)) → GoesOnInto κ p a rest → ⊥
  not_into a [] v h k =
      let g = k.1 in
      too_long k.0 g.0 (ok_parts v g.1 (k.0 ∷ (g.0 ++ last ∷ [])) (last ∷ []) (read κ p (a ++ k.0 ∷ (g.0 ++ last ∷ []))) (h (k.0 ∷ (g.0 ++ last ∷ [])) tt) (begun a k.0 g)).1
  not_into a (x ∷ rest) v h k =
      too_long x k.0 (ok_parts v k.1 (x ∷ (k.0 ++ last ∷ [])) (last ∷ []) (read κ p (a ++ x ∷ (k.0 ++ last ∷ []))) (h (x ∷ (k.0 ++ last ∷ [])) refl) (begun a x k)).1

  pub text_from_read : (ts rest : List X) (v : A) → read κ p ts ≡ Ok (v, rest) → Takes κ p ts v rest
  text_from_read ts rest v e =
      let h = says_by ts (Ok (v, rest)) e in
      record { text = h.0; place = h.1; is_text = h.2; stops = not_into h.0 rest v h.3 }

  pub begins_from_read : (ts : List X) → read κ p ts ≡ Err ended → Begins κ p ts
  begins_from_read ts e = says_by ts (Err ended) e

  -- ---- the fault tells

  at_its_place : (b d : List X) (x : X) (r : R) (after : List X) → (h : Says κ p (b ++ x ∷ []) (Err (refused x r))) → read κ p (b ++ x ∷ []) ≡ Err (refused x r) → Places h.0 x h.1 b x [] → read κ p (b ++ x ∷ after) ≡ Err (refused x r)
  at_its_place b d x r after h e (one_place f g k) = subst (λ (z : List X). read κ p (z ++ x ∷ after) ≡ Err (refused x r)) f (h.4 after)
  at_its_place b d x r after h e (before_it m f) =
      let back : b ++ x ∷ after ≡ h.0 ++ x ∷ (m ++ x ∷ after) = ap (λ (z : List X). z ++ x ∷ after) f ∙ append_assoc (h.0 ++ x ∷ []) m (x ∷ after) ∙ append_assoc h.0 (x ∷ []) (m ++ x ∷ after) in
      ap (read κ p) back ∙ h.4 (m ++ x ∷ after)
  at_its_place b d x r after h e (behind_it m f) =
      absurd (omega (arith, ap length f, ap length h.2, length-append h.0 (x ∷ h.1), length-append b (x ∷ []), length-append (b ++ x ∷ []) m))

  pub read_from_fault : (ts : List X) (x : X) (r : R) → Faults κ p ts x r → read κ p ts ≡ Err (refused x r)
  read_from_fault ts x r h =
      let k = says_by (h.before ++ x ∷ []) (Err (refused x r)) h.reason_is in
      ap (read κ p) h.place ∙ at_its_place h.before [] x r h.after k h.reason_is (places k.0 x k.1 h.before x [] (sym k.2))

  -- Tokens have at most one first fault, and none where a text stands that the next token cannot go on with, as it is read.
  pub one_fault : (ts : List X) (x y : X) (q r : R) → Faults κ p ts x q → Faults κ p ts y r → (x ≡ y) × (q ≡ r)
  one_fault ts x y q r h k = stop_parts x y q r (err_parts (refused x q) (refused y r) (read κ p ts) (read_from_fault ts x q h) (read_from_fault ts y r k))

  -- Tokens with a first fault begin no text that goes on beyond it.
  pub fault_or_begins : (ts : List X) (x : X) (r : R) → Faults κ p ts x r → Begins κ p ts → ⊥
  fault_or_begins ts x r h k =
      let e : ts ≡ (h.before ++ x ∷ []) ++ h.after = h.place ∙ sym (append_assoc h.before (x ∷ []) h.after) in
      h.stops (fewer_begins κ p (h.before ++ x ∷ []) ts h.after e k)
