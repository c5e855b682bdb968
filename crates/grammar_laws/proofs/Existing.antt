-- Where tokens can go on to a text, and with one more token cannot, and are no text themselves, that token is refused: each first fault has a
-- reason.
use Rattle.std.proofs.Common.{◌≡◌, List, [], ◌∷◌, ◌++◌, Ok, Err, refl, sym, ap, subst, ◌∙◌, append_assoc, append-nil}
use Rattle.grammar.specs.Part.{Part}
use Rattle.grammar.specs.Texts.{Spells, Begins}
use Rattle.grammar.specs.Reading.{refused, ended, Found, read}
use Rattle.grammar.specs.Clear.{IsLive, IsClear}
use Rattle.grammar.specs.Faults.{GoesOnInto, Faults}
use Rattle.grammar.proofs.Exact.{Places, one_place, before_it, behind_it, text_from_read, fault_from_read, begins_from_read}

places : {X : Type 0} (a : List X) (x : X) (c b : List X) (y : X) (d : List X) → a ++ x ∷ c ≡ b ++ y ∷ d → Places a x c b y d
places [] x c [] y d e = let k : x ≡ y = cc in let l : c ≡ d = cc in one_place refl k l
places [] x c (z ∷ b) y d e = let k : z ≡ x = cc in before_it b (ap (λ w. w ∷ b) k)
places (z ∷ a) x c [] y d e = let k : z ≡ y = cc in behind_it a (ap (λ w. w ∷ a) k)
places (z ∷ a) x c (w ∷ b) y d e = let k : z ≡ w = cc in let l : a ++ x ∷ c ≡ b ++ y ∷ d = cc in more k (places a x c b y d l)
  where
    more : z ≡ w → Places a x c b y d → Places (z ∷ a) x c (w ∷ b) y d
    more k (one_place e f g) = one_place (cc) f g
    more k (before_it m e) = before_it m (cc)
    more k (behind_it m e) = behind_it m (cc)

fewer_begins : {K X R A : Type 0} (κ : K) (p : Part K X R A) (a b m : List X) → b ≡ a ++ m → Begins κ p b → Begins κ p a
fewer_begins κ p a b m e h = (m ++ h.0, h.1, subst (λ (z : List _). Spells κ p z h.1) (ap (λ (z : List _). z ++ h.0) e ∙ append_assoc a m h.0) h.2)

spells_begins : {K X R A : Type 0} (κ : K) (p : Part K X R A) (ts : List X) (v : A) → Spells κ p ts v → Begins κ p ts
spells_begins κ p ts v h = ([], v, subst (λ (z : List _). Spells κ p z v) (sym (append-nil ts)) h)

module _ {K X R A : Type 0} (κ : K) (p : Part K X R A) (live : IsLive κ p) (last : X) (clear : IsClear κ p (λ _ x. x ≡ last))
    (before after : List X) (x : X) (goes_on : Begins κ p before) (stops : Begins κ p (before ++ x ∷ []) → ⊥) (no_text : (v : A) → Spells κ p before v → ⊥) where
  ts : List X
  ts = before ++ x ∷ after

  abbrev IsFault : Type 0
  IsFault = (reason : R) × Faults κ p (before ++ x ∷ after) x reason

  one_more : (before ++ x ∷ []) ++ after ≡ before ++ x ∷ after
  one_more = append_assoc before (x ∷ []) after

  -- no text is at the front
  not_taken : (rest text : List X) (v : A) → before ++ x ∷ after ≡ text ++ rest → Spells κ p text v → (GoesOnInto κ p text rest → ⊥) → ⊥
  not_taken [] text v e h stop = stops (fewer_begins κ p (before ++ x ∷ []) text after (sym (append-nil text) ∙ (sym e ∙ sym one_more)) (spells_begins κ p text v h))
  not_taken (y ∷ rest) text v e h stop = by (places text y rest before x after (sym e))
    where
      by : Places text y rest before x after → ⊥
      by (one_place a b c) = no_text v (subst (λ (z : List X). Spells κ p z v) a h)
      by (before_it m a) = stop (fewer_begins κ p (text ++ y ∷ []) before m a goes_on)
      by (behind_it m a) = stops (fewer_begins κ p (before ++ x ∷ []) text m a (spells_begins κ p text v h))

  the_fault : (y : X) (r : R) → Faults κ p (before ++ x ∷ after) y r → IsFault
  the_fault y r h = by (places h.before y h.after before x after (sym h.place))
    where
      by : Places h.before y h.after before x after → IsFault
      by (one_place a b c) = (r, subst (λ (z : X). Faults κ p (before ++ x ∷ after) z r) b h)
      by (before_it m a) = absurd (h.stops (fewer_begins κ p (h.before ++ y ∷ []) before m a goes_on))
      by (behind_it m a) = absurd (stops (fewer_begins κ p (before ++ x ∷ []) h.before m a h.goes_on))

  by_reading : (r : Found X R A) → read κ p (before ++ x ∷ after) ≡ r → IsFault
  by_reading (Ok w) e = let t = text_from_read κ p live last clear (before ++ x ∷ after) w.1 w.0 e in absurd (not_taken w.1 t.text w.0 t.place t.is_text t.stops)
  by_reading (Err (refused y r)) e = the_fault y r (fault_from_read κ p live last clear (before ++ x ∷ after) y r e)
  by_reading (Err ended) e = absurd (stops (fewer_begins κ p (before ++ x ∷ []) (before ++ x ∷ after) after (sym one_more) (begins_from_read κ p live last clear (before ++ x ∷ after) e)))

  pub fault_exists : IsFault
  fault_exists = by_reading (read κ p (before ++ x ∷ after)) refl
