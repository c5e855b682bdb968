-- After a text comes a token that may go on with it, that is left, or that is barred.
use Rattle.std.proofs.Common.{◌≡◌, List, [], ◌∷◌, ◌++◌, Ok, Err, refl, sym, ap, subst, ◌∙◌, append_assoc, ◌⊎◌, inl, inr}
use Rattle.std.proofs.lemmas.List.{append-nil}
use Rattle.grammar.specs.Part.{Part, gives, token, sequence, ahead, loop, under, Glance, takes, refuses, leaves}
use Rattle.grammar.specs.Texts.{Rounds, ends, goes, Spells, Begins}
use Rattle.grammar.specs.Reading.{refused, read}
use Rattle.grammar.specs.Clear.{Next, IsClear, IsLive, Bars}
use Rattle.grammar.proofs.Loops.{opened, read_loop, close_loop}
use Rattle.grammar.proofs.Laws.{some_text, begins_then, begins_first, begins_taken, begins_other}
use Rattle.grammar.proofs.Again.{first_of, again}

abbrev pub Onward : {K X R A : Type 0} → K → Part K X R A → List X → A → X → Type 0
Onward {X = X} {R = R} κ p a v x =
    ((d : List X) → read κ p (a ++ x ∷ d) ≡ Ok (v, x ∷ d)) ⊎ (((r : R) × ((d : List X) → read κ p (a ++ x ∷ d) ≡ Err (refused x r)) × Bars κ p x r) ⊎ Begins κ p (a ++ x ∷ []))

module _ {K X R A B : Type 0} (κ : K) (p : Part K X R A) (q : A → Part K X R B) where
  -- the first part is left before the second's text
  behind : (a b : List X) (u : A) (v : B) (x : X) → Spells κ p a u → ((d : List X) → read κ p (a ++ (b ++ x ∷ d)) ≡ Ok (u, b ++ x ∷ d)) → Onward κ (q u) b v x → Onward κ (sequence p q) (a ++ b) v x
  behind a b u v x s one (inl h) = inl (λ d. rw (append_assoc a b (x ∷ d), one d) (h d))
  behind a b u v x s one (inr (inl h)) = inr (inl (h.0, λ d. rw (append_assoc a b (x ∷ d), one d) (h.1 d), inr (u, h.2)))
  behind a b u v x s one (inr (inr h)) = inr (inr (subst (Begins κ (sequence p q)) (sym (append_assoc a b (x ∷ []))) (begins_then κ p q a (b ++ x ∷ []) u s h)))

  at_first : ((u : A) → IsLive κ (q u)) → (a : List X) (u : A) (v : B) (x : X) → Spells κ p a u → Onward κ p a u x → Onward κ (q u) [] v x → Onward κ (sequence p q) (a ++ []) v x
  at_first live a u v x s (inl h) k = behind a [] u v x s h k
  at_first live a u v x s (inr (inl h)) k = inr (inl (h.0, λ d. rw (append-nil a, h.1 d) refl, inl h.2))
  at_first live a u v x s (inr (inr h)) k = inr (inr (subst (λ (z : List X). Begins κ (sequence p q) (z ++ x ∷ [])) (sym (append-nil a)) (begins_first κ p q (a ++ x ∷ []) live h)))

  both : (F : A → X → Type 0) → IsClear κ p F → ((u : A) → IsLive κ (q u)) → (a b : List X) (u : A) (v : B) (x : X) → ((y : X) (m : List X) → b ≡ y ∷ m → F u y) → Spells κ p a u → Onward κ p a u x → Onward κ (q u) b v x → Onward κ (sequence p q) (a ++ b) v x
  both F clear live a [] u v x first s one two = at_first live a u v x s one two
  both F clear live a (y ∷ b) u v x first s one two = behind a (y ∷ b) u v x s (λ d. again κ p F clear a y (b ++ x ∷ d) u s (first y b refl)) two

module _ {K X R A C : Type 0} (κ : K) (f : K → X → Glance C R) (p : C → Part K X R A) (q : Part K X R A) where
  taken : (y : X) (c : C) (a : List X) (v : A) (x : X) → f κ y ≡ takes c → Onward κ (p c) a v x → Onward κ (ahead f p q) (y ∷ a) v x
  taken y c a v x e (inl h) = inl (λ d. rw e (h d))
  taken y c a v x e (inr (inl h)) = inr (inl (h.0, λ d. rw e (h.1 d), inr (inl (c, h.2))))
  taken y c a v x e (inr (inr h)) = inr (inr (begins_taken κ f p q y c (a ++ x ∷ []) e h))

  left_at : (y : X) (m ts : List X) → ts ≡ y ∷ m → f κ y ≡ leaves → read κ (ahead f p q) ts ≡ read κ q ts
  left_at y m ts e k = rw (e, k) refl

  left_by : (a : List X) (v : A) (x : X) → ((d : List X) → read κ (ahead f p q) (a ++ x ∷ d) ≡ read κ q (a ++ x ∷ d)) → Onward κ q a v x → Onward κ (ahead f p q) a v x
  left_by a v x e (inl h) = inl (λ d. e d ∙ h d)
  left_by a v x e (inr (inl h)) = inr (inl (h.0, λ d. e d ∙ h.1 d, inr (inr h.2)))
  left_by a v x e (inr (inr h)) = inr (inr (begins_other κ f p q (a ++ x ∷ []) h))

  at_start : ((c : C) → IsLive κ (p c)) → (v : A) (x : X) (g : Glance C R) → f κ x ≡ g → Onward κ q [] v x → Onward κ (ahead f p q) [] v x
  at_start live v x (takes c) e h = let t = some_text κ (p c) (live c) in inr (inr (begins_taken κ f p q x c [] e (t.0, t.1, t.2)))
  at_start live v x (refuses r) e h = inr (inl (r, λ d. rw e refl, inl e))
  at_start live v x leaves e h = left_by [] v x (λ d. left_at x d (x ∷ d) refl e) h

  other : (F : A → X → Type 0) → ((x : X) → Next κ q F x → f κ x ≡ leaves) → ((c : C) → IsLive κ (p c)) → (a : List X) (v : A) (x : X) → Spells κ q a v → Onward κ q a v x → Onward κ (ahead f p q) a v x
  other F clear live [] v x s h = at_start live v x (f κ x) refl h
  other F clear live (y ∷ a) v x s h = left_by (y ∷ a) v x (λ d. left_at y (a ++ x ∷ d) (y ∷ (a ++ x ∷ d)) refl (clear y (inl (first_of κ q y a v s)))) h

module _ {K X R A C S : Type 0} (κ : K) (f : S → K → X → Glance C R) (q : S → C → Part K X R S) (e : S → Part K X R A) where
  more_bars : (s : S) (x : X) (r : R) → Bars κ (opened f q e s) x r → Bars κ (loop f q e s) x r
  more_bars s x r (inl h) = inl (s, h)
  more_bars s x r (inr (inl (c, inl h))) = inr (inl (s, c, h))
  more_bars s x r (inr (inl (c, inr h))) = h.1
  more_bars s x r (inr (inr h)) = inr (inr (s, h))

  reopened : (s : S) (a : List X) (v : A) (x : X) → Onward κ (opened f q e s) a v x → Onward κ (loop f q e s) a v x
  reopened s a v x (inl h) = inl (λ d. read_loop κ f q e s (a ++ x ∷ d) ∙ h d)
  reopened s a v x (inr (inl h)) = inr (inl (h.0, λ d. read_loop κ f q e s (a ++ x ∷ d) ∙ h.1 d, more_bars s x h.0 h.2))
  reopened s a v x (inr (inr h)) = inr (inr (h.0, h.1, close_loop κ f q e s ((a ++ x ∷ []) ++ h.0) h.1 h.2))

  onward_rounds : (F : A → X → Type 0) → ((s : S) (c : C) → IsClear κ (q s c) (λ t. Next κ (loop f q e t) F)) → ((s : S) (x : X) → Next κ (e s) F x → f s κ x ≡ leaves)
      → ((s : S) (c : C) → IsLive κ (q s c)) → ((s : S) → IsLive κ (e s))
      → ((s : S) (c : C) (a : List X) (t : S) (x : X) → Spells κ (q s c) a t → Onward κ (q s c) a t x) → ((s : S) (a : List X) (v : A) (x : X) → Spells κ (e s) a v → Onward κ (e s) a v x)
      → (s : S) (a : List X) (v : A) (x : X) → Rounds (λ s. f s κ) (λ s c. Spells κ (q s c)) (λ s. Spells κ (e s)) s a v → Onward κ (loop f q e s) a v x
  onward_rounds F clear leave live quit one end s a v x (ends h) =
      reopened s a v x (other κ (f s) (λ c. sequence (q s c) (λ t. loop f q e t)) (e s) F (leave s) (λ c. (live s c, λ t. (live, quit))) a v x h (end s a v x h))
  onward_rounds F clear leave live quit one end s a v x (goes t b d h rest parts) =
      let turn : Onward κ (sequence (q s h.1) (λ t. loop f q e t)) (h.2 ++ d) v x =
      both κ (q s h.1) (λ t. loop f q e t) (λ t. Next κ (loop f q e t) F) (clear s h.1) (λ t. (live, quit)) h.2 d t v x
      (λ y m k. inl (first_of κ (loop f q e t) y m v (subst (λ (z : List X). Spells κ (loop f q e t) z v) k rest))) h.5 (one s h.1 h.2 t x h.5) (onward_rounds F clear leave live quit one end t d v x rest) in
      let same : a ≡ h.0 ∷ (h.2 ++ d) = parts ∙ ap (λ (z : List X). z ++ d) h.3 in
      subst (λ (z : List X). Onward κ (loop f q e s) z v x) (sym same)
      (reopened s (h.0 ∷ (h.2 ++ d)) v x (taken κ (f s) (λ c. sequence (q s c) (λ t. loop f q e t)) (e s) h.0 h.1 (h.2 ++ d) v x h.4 turn))

pub onward : {K X R A : Type 0} (κ : K) (p : Part K X R A) (F : A → X → Type 0) → IsClear κ p F → IsLive κ p → (a : List X) (v : A) (x : X) → Spells κ p a v → Onward κ p a v x
onward κ (gives w) F clear live a v x h = inl (λ d. rw (h.0, h.1) refl)
onward κ (token f) F clear live a v x h = inl (λ d. rw (h.1, h.2) refl)
onward κ (sequence p q) F clear live a v x h =
    subst (λ (z : List _). Onward κ (sequence p q) z v x) (sym h.3)
    (both κ p q (λ u. Next κ (q u) F) clear.0 live.1 h.1 h.2 h.0 v x (λ y m e. inl (first_of κ (q h.0) y m v (subst (λ (z : List _). Spells κ (q h.0) z v) e h.5))) h.4
    (onward κ p (λ u. Next κ (q u) F) clear.0 live.0 h.1 h.0 x h.4) (onward κ (q h.0) F (clear.1 h.0) (live.1 h.0) h.2 v x h.5))
onward κ (ahead f p q) F clear live a v x (inl h) =
    subst (λ (z : List _). Onward κ (ahead f p q) z v x) (sym h.3) (taken κ f p q h.0 h.1 h.2 v x h.4 (onward κ (p h.1) F (clear.0 h.1) (live.0 h.1) h.2 v x h.5))
onward κ (ahead f p q) F clear live a v x (inr h) = other κ f p q F clear.2 live.0 a v x h (onward κ q F clear.1 live.1 a v x h)
onward κ (loop f q e s) F clear live a v x h =
    onward_rounds κ f q e F clear.0 clear.2 live.0 live.1 (λ s c a t x. onward κ (q s c) (λ t. Next κ (loop f q e t) F) (clear.0 s c) (live.0 s c) a t x) (λ s a v x. onward κ (e s) F (clear.1 s) (live.1 s) a v x) s a v x h
onward κ (under j p) F clear live a v x h = onward j p F clear live a v x h
