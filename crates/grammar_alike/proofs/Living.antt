-- Parts that can be gone on with by tokens of which a fact holds, and that say the same of tokens that are alike.
use Rattle.std.proofs.Common.{◌≡◌, ℕ, zero, suc, ◌≤◌, List, [], ◌∷◌, ◌++◌, length, Ok, Err, refl, sym, ap, subst, ◌∙◌, arith, inr}
use Rattle.std.proofs.lemmas.List.{length-append}
use Rattle.grammar.specs.Part.{Part, gives, token, sequence, ahead, loop, under, Glance, takes}
use Rattle.grammar.specs.Reading.{refused, ended, Found, read_rounds, read}
use Rattle.grammar.specs.Texts.{ends}
use Rattle.grammar.proofs.Loops.{opened, read_loop, close_loop}
use Rattle.grammar_laws.proofs.GoingOn.{HasText, SaysBy, says_token, says_sequence, says_ahead, text_then}
use Rattle.grammar_alike.specs.Alike.{Respects}

-- From each place of the part, behind what is taken there, some tokens of which P holds lead to its end; and the part says the same of tokens that
-- are alike. Both facts are shown by one walk over the productions.
abbrev pub LivesAlike : {K X R A : Type 0} → (X → Type 0) → (X → X → Type 0) → K → Part K X R A → Type 0
LivesAlike P E k (gives a) = Unit {0}
LivesAlike {X = X} P E k (token {A = A} f) = ((x : X) × (a : A) × (f k x ≡ Ok a) × P x) × ((x y : X) → E x y → f k x ≡ f k y)
LivesAlike P E k (sequence {A = A} p q) = LivesAlike P E k p × ((u : A) → LivesAlike P E k (q u))
LivesAlike {X = X} P E k (ahead {C = C} f p q) = ((x y : X) → E x y → f k x ≡ f k y) × ((x : X) (c : C) → f k x ≡ takes c → LivesAlike P E k (p c)) × LivesAlike P E k q
LivesAlike {X = X} P E k (loop {C = C} {S = S} f q e s) =
    ((s : S) (x y : X) → E x y → f s k x ≡ f s k y) × ((s : S) (x : X) (c : C) → f s k x ≡ takes c → LivesAlike P E k (q s c)) × ((s : S) → LivesAlike P E k (e s))
LivesAlike P E k (under j p) = LivesAlike P E j p

module _ {X : Type 0} (P : X → Type 0) (E : X → X → Type 0) where
  pub respects : {K R A : Type 0} (k : K) (p : Part K X R A) → LivesAlike P E k p → Respects E k p
  respects k (gives a) h = tt
  respects k (token f) h = h.1
  respects k (sequence p q) h = (respects k p h.0, λ u. respects k (q u) (h.1 u))
  respects k (ahead f p q) h = (h.0, λ x c i. respects k (p c) (h.1 x c i), respects k q h.2)
  respects k (loop f q e s) h = (h.0, λ s x c i. respects k (q s c) (h.1 s x c i), λ s. respects k (e s) (h.2 s))
  respects k (under j p) h = respects j p h

  text_of : {K R A : Type 0} (k : K) (p : Part K X R A) → LivesAlike P E k p → HasText P k p
  text_of k (gives a) h = ([], a, tt, (refl, refl))
  text_of k (token f) h = (h.0.0 ∷ [], h.0.1, (h.0.3, tt), (h.0.0, refl, h.0.2))
  text_of k (sequence p q) h = text_then P k p q (text_of k p h.0) (λ u. text_of k (q u) (h.1 u))
  text_of k (ahead f p q) h = let t = text_of k q h.2 in (t.0, t.1, t.2, inr t.3)
  text_of k (loop f q e s) h = let t = text_of k (e s) (h.2 s) in (t.0, t.1, t.2, ends t.3)
  text_of k (under j p) h = text_of j p h

  module _ {K R A C S : Type 0} (k : K) (f : S → K → X → Glance C R) (q : S → C → Part K X R S) (e : S → Part K X R A) where
    says_opened : (s : S) (ts : List X) (r : Found X R A) → SaysBy P k (opened f q e s) ts r → SaysBy P k (loop f q e s) ts r
    says_opened s ts (Ok y) h = (h.0, h.1, close_loop k f q e s h.0 y.0 h.2, λ d alike. read_loop k f q e s (h.0 ++ d) ∙ h.3 d alike)
    says_opened s ts (Err (refused x r)) h =
        (h.0, h.1, h.2, (h.3.0, h.3.1, h.3.2, close_loop k f q e s (h.0 ++ h.3.0) h.3.1 h.3.3), λ d. read_loop k f q e s (h.0 ++ x ∷ d) ∙ h.4 d)
    says_opened s ts (Err ended) h = (h.0, h.1, h.2, close_loop k f q e s (ts ++ h.0) h.1 h.3)

    loop_text : ((s : S) → HasText P k (e s)) → (s : S) → HasText P k (loop f q e s)
    loop_text quit s = let t = quit s in (t.0, t.1, t.2, ends t.3)

    -- a loop, of which each round says what it should behind the token that it takes
    says_rounds : ((s : S) → HasText P k (e s))
        → ((s : S) (x : X) (c : C) → f s k x ≡ takes c → (ts : List X) → SaysBy P k (q s c) ts (read k (q s c) ts))
        → ((s : S) (ts : List X) → SaysBy P k (e s) ts (read k (e s) ts)) → (n : ℕ) (s : S) (ts : List X) → length ts ≤ n
        → SaysBy P k (loop f q e s) ts (read k (loop f q e s) ts)
    unfolding read_rounds
    says_rounds quit one end zero s [] le = let t = quit s in (t.0, t.1, t.2, ends t.3)
    says_rounds quit one end zero s (x ∷ ts) le = absurd (omega arith)
    says_rounds quit one end (suc n) s ts le =
        subst (SaysBy P k (loop f q e s) ts) (sym (read_loop k f q e s ts))
        (says_opened s ts (read k (opened f q e s) ts)
        (says_ahead P k (f s) (λ c. sequence (q s c) (λ t. loop f q e t)) (e s) (quit s) ts
        (λ x c b is taken. let shorter : suc (length b) ≤ suc n = subst (λ (z : List X). length z ≤ suc n) is le in
        says_sequence P k (q s c) (λ t. loop f q e t) (loop_text quit) b (one s x c taken b)
        (λ t a d parts spells. says_rounds quit one end n t d (let l = ap length parts in let m = length-append a d in omega (arith, l, m, shorter))))
        (end s ts)))

  -- every answer of the reading of such a part says what it should
  pub says_alike : {K R A : Type 0} (k : K) (p : Part K X R A) → LivesAlike P E k p → (ts : List X) → SaysBy P k p ts (read k p ts)
  says_alike k (gives a) h ts = ([], refl, (refl, refl), λ d alike. refl)
  says_alike k (token f) h ts = says_token P k f (text_of k (token f) h) ts
  says_alike k (sequence p q) h ts =
      says_sequence P k p q (λ u. text_of k (q u) (h.1 u)) ts (says_alike k p h.0 ts) (λ u a b parts spells. says_alike k (q u) (h.1 u) b)
  says_alike k (ahead f p q) h ts =
      says_ahead P k f p q (text_of k q h.2) ts (λ x c b is taken. says_alike k (p c) (h.1 x c taken) b) (says_alike k q h.2 ts)
  says_alike k (loop f q e s) h ts =
      says_rounds k f q e (λ s. text_of k (e s) (h.2 s)) (λ s x c i ts. says_alike k (q s c) (h.1 s x c i) ts) (λ s ts. says_alike k (e s) (h.2 s) ts) (length ts) s ts (omega arith)
  says_alike k (under j p) h ts = says_alike j p h ts
