-- Tokens that are alike spell the same.
use Rattle.std.proofs.Common.{◌≡◌, List, [], ◌∷◌, ◌++◌, refl, sym, ap, subst, ◌∙◌, inl, inr}
use Rattle.grammar.specs.Part.{Part, gives, token, sequence, ahead, loop, under, Glance, takes}
use Rattle.grammar.specs.Texts.{Spells, Begins, TakenText, Rounds, ends, goes}
use Rattle.grammar_alike.specs.Alike.{AreAlike, Respects}

-- ---- lists

module _ {X : Type 0} (E : X → X → Type 0) where
  pub alike_both : (a b c d : List X) → AreAlike E a c → AreAlike E b d → AreAlike E (a ++ b) (c ++ d)
  alike_both [] b [] d h k = k
  alike_both [] b (y ∷ c) d h k = absurd h
  alike_both (x ∷ a) b [] d h k = absurd h
  alike_both (x ∷ a) b (y ∷ c) d h k = (h.0, alike_both a b c d h.1 k)

  pub alike_self : ((x : X) → E x x) → (a : List X) → AreAlike E a a
  alike_self same [] = tt
  alike_self same (x ∷ a) = (same x, alike_self same a)

  none_alike : (us : List X) → AreAlike E [] us → us ≡ []
  none_alike [] h = refl
  none_alike (y ∷ us) h = absurd h

  first_alike : (x : X) (a us : List X) → AreAlike E (x ∷ a) us → (y : X) × (c : List X) × (us ≡ y ∷ c) × E x y × AreAlike E a c
  first_alike x a [] h = absurd h
  first_alike x a (y ∷ us) h = (y, us, refl, h.0, h.1)

  parts_alike : (a b us : List X) → AreAlike E (a ++ b) us → (c : List X) × (d : List X) × (us ≡ c ++ d) × AreAlike E a c × AreAlike E b d
  parts_alike [] b us h = ([], us, refl, tt, h)
  parts_alike (x ∷ a) b [] h = absurd h
  parts_alike (x ∷ a) b (y ∷ us) h = let p = parts_alike a b us h.1 in (y ∷ p.0, p.1, ap (λ (z : List X). y ∷ z) p.2, (h.0, p.3), p.4)

  -- ---- texts

  taken_alike : {R A C : Type 0} (f : X → Glance C R) (Q : C → List X → A → Type 0) → ((x y : X) → E x y → f x ≡ f y)
      → ((x : X) (c : C) → f x ≡ takes c → (ts us : List X) (v : A) → AreAlike E ts us → Q c ts v → Q c us v)
      → (ts us : List X) (v : A) → AreAlike E ts us → TakenText f Q ts v → TakenText f Q us v
  taken_alike f Q hx hq ts us v h t =
      let p = first_alike t.0 t.2 us (subst (λ (z : List X). AreAlike E z us) t.3 h) in
      (p.0, t.1, p.1, p.2, sym (hx t.0 p.0 p.3) ∙ t.4, hq t.0 t.1 t.4 t.2 p.1 v p.4 t.5)

  rounds_alike : {R A C S : Type 0} (f : S → X → Glance C R) (Q : S → C → List X → S → Type 0) (F : S → List X → A → Type 0)
      → ((s : S) (x y : X) → E x y → f s x ≡ f s y)
      → ((s : S) (x : X) (c : C) → f s x ≡ takes c → (ts us : List X) (t : S) → AreAlike E ts us → Q s c ts t → Q s c us t)
      → ((s : S) (ts us : List X) (v : A) → AreAlike E ts us → F s ts v → F s us v)
      → (s : S) (ts us : List X) (v : A) → AreAlike E ts us → Rounds f Q F s ts v → Rounds f Q F s us v
  rounds_alike f Q F hx hq hf s ts us v h (ends e) = ends (hf s ts us v h e)
  rounds_alike f Q F hx hq hf s ts us v h (goes t a b taken rest is) =
      let p = parts_alike a b us (subst (λ (z : List X). AreAlike E z us) is h) in
      goes t p.0 p.1 (taken_alike (f s) (Q s) (hx s) (hq s) a p.0 t p.3 taken) (rounds_alike f Q F hx hq hf t b p.1 v p.4 rest) p.2

  -- tokens that are alike spell the same value
  pub spells_alike : {K R A : Type 0} (k : K) (p : Part K X R A) → Respects E k p → (ts us : List X) (v : A) → AreAlike E ts us → Spells k p ts v
      → Spells k p us v
  spells_alike k (gives a) r ts us v h s = (none_alike us (subst (λ (z : List X). AreAlike E z us) s.0 h), s.1)
  spells_alike k (token f) r ts us v h s =
      let p = first_alike s.0 [] us (subst (λ (z : List X). AreAlike E z us) s.1 h) in
      (p.0, p.2 ∙ ap (λ (z : List X). p.0 ∷ z) (none_alike p.1 p.4), sym (r s.0 p.0 p.3) ∙ s.2)
  spells_alike k (sequence p q) r ts us v h s =
      let c = parts_alike s.1 s.2 us (subst (λ (z : List X). AreAlike E z us) s.3 h) in
      (s.0, c.0, c.1, c.2, spells_alike k p r.0 s.1 c.0 s.0 c.3 s.4, spells_alike k (q s.0) (r.1 s.0) s.2 c.1 v c.4 s.5)
  spells_alike k (ahead f p q) r ts us v h (inl s) =
      inl (taken_alike (f k) (λ c. Spells k (p c)) r.0 (λ x c i xs ys w. spells_alike k (p c) (r.1 x c i) xs ys w) ts us v h s)
  spells_alike k (ahead f p q) r ts us v h (inr s) = inr (spells_alike k q r.2 ts us v h s)
  spells_alike k (loop f q e s) r ts us v h t =
      rounds_alike (λ s. f s k) (λ s c. Spells k (q s c)) (λ s. Spells k (e s)) r.0 (λ s x c i xs ys w. spells_alike k (q s c) (r.1 s x c i) xs ys w) (λ s xs ys w. spells_alike k (e s) (r.2 s) xs ys w) s ts us v h t
  spells_alike k (under j p) r ts us v h s = spells_alike j p r ts us v h s

  -- tokens that are alike begin the same texts
  pub begins_alike : {K R A : Type 0} (k : K) (p : Part K X R A) → Respects E k p → ((x : X) → E x x) → (ts us : List X) → AreAlike E ts us
      → Begins k p ts → Begins k p us
  begins_alike k p r same ts us h b =
      (b.0, b.1, spells_alike k p r (ts ++ b.0) (us ++ b.0) b.1 (alike_both ts b.0 us b.0 h (alike_self same b.0)) b.2)
