-- What is read is spelled so, and what has been read can be gone on with by tokens of which a fact holds.
use Rattle.std.proofs.Common.{◌≡◌, ℕ, zero, suc, ◌≤◌, List, [], ◌∷◌, ◌++◌, length, Result, Ok, Err, refl, sym, ap, subst, ◌∙◌, append_assoc, arith, inl, inr}
use Rattle.std.proofs.lemmas.List.{length-append}
use Rattle.grammar.specs.Part.{Part, gives, token, sequence, ahead, loop, under, Glance, takes, refuses, leaves}
use Rattle.grammar.specs.Texts.{ends, Spells}
use Rattle.grammar.specs.Reading.{refused, ended, and_then, Found, judged, take_token, glanced, read_rounds, read}
use Rattle.grammar.proofs.Laws.{Alike}
use Rattle.grammar_laws.specs.GoesOn.{AllOf, BeginsBy}
use Rattle.grammar_laws.proofs.Refusing.{AllFit, all_both}
use Rattle.grammar.proofs.Loops.{opened, read_loop, close_loop}

-- tokens of which the fact holds are a text
abbrev pub HasText : {K X R A : Type 0} → (X → Type 0) → K → Part K X R A → Type 0
HasText {X = X} {A = A} P k p = (ts : List X) × (v : A) × AllOf P ts × Spells k p ts v

-- from each place in the part some tokens of which the fact holds lead to its end
abbrev pub IsLiveBy : {K X R A : Type 0} → (X → Type 0) → K → Part K X R A → Type 0
IsLiveBy P k (gives a) = Unit {0}
IsLiveBy {X = X} P k (token {A = A} f) = (x : X) × (a : A) × (f k x ≡ Ok a) × P x
IsLiveBy P k (sequence {A = A} p q) = IsLiveBy P k p × ((u : A) → IsLiveBy P k (q u))
IsLiveBy P k (ahead {C = C} f p q) = ((c : C) → IsLiveBy P k (p c)) × IsLiveBy P k q
IsLiveBy P k (loop {C = C} {S = S} f q e s) = ((s : S) (c : C) → IsLiveBy P k (q s c)) × ((s : S) → IsLiveBy P k (e s))
IsLiveBy P k (under j p) = IsLiveBy P j p

alike_behind : {X : Type 0} (a b d : List X) → Alike b d → Alike (a ++ b) (a ++ d)
alike_behind [] b d h = h
alike_behind (x ∷ a) b d h = refl

regroup : {X : Type 0} (ts a b c d : List X) → ts ≡ a ++ b → b ≡ c ++ d → ts ≡ (a ++ c) ++ d
regroup ts a b c d e f = e ∙ ap (λ (z : List _). a ++ z) f ∙ sym (append_assoc a c d)

-- what begins with a token still does where the rest is alike
same_front : {X : Type 0} (x : X) (ts a b d : List X) → x ∷ ts ≡ a ++ b → Alike b d → (c : List X) × (a ++ d ≡ x ∷ c)
same_front x ts [] [] d e h = absurd cc
same_front x ts [] (y ∷ b) [] e h = absurd h
same_front x ts [] (y ∷ b) (z ∷ d) e h = let k : z ≡ x = cc in (d, ap (λ z. z ∷ d) k)
same_front x ts (y ∷ a) b d e h = let k : y ≡ x = cc in (a ++ d, ap (λ z. z ∷ (a ++ d)) k)

abbrev pub SaysBy : {K X R A : Type 0} → (X → Type 0) → K → Part K X R A → List X → Found X R A → Type 0
SaysBy {X = X} P κ p ts (Ok x) = (a : List X) × (ts ≡ a ++ x.1) × Spells κ p a x.0 × ((d : List X) → Alike x.1 d → read κ p (a ++ d) ≡ Ok (x.0, d))
SaysBy {X = X} P κ p ts (Err (refused x r)) = (a : List X) × (c : List X) × (ts ≡ a ++ x ∷ c) × BeginsBy P κ p a × ((d : List X) → read κ p (a ++ x ∷ d) ≡ Err (refused x r))
SaysBy P κ p ts (Err ended) = BeginsBy P κ p ts

module _ {X : Type 0} (P : X → Type 0) where
  pub text_by : {K R A : Type 0} (κ : K) (p : Part K X R A) → IsLiveBy P κ p → HasText P κ p
  text_by κ (gives a) h = ([], a, tt, (refl, refl))
  text_by κ (token f) h = (h.0 ∷ [], h.1, (h.3, tt), (h.0, refl, h.2))
  text_by κ (sequence p q) h =
      let t = text_by κ p h.0 in
      let u = text_by κ (q t.1) (h.1 t.1) in
      (t.0 ++ u.0, u.1, all_both P t.0 u.0 t.2 u.2, (t.1, t.0, u.0, refl, t.3, u.3))
  text_by κ (ahead f p q) h = let t = text_by κ q h.1 in (t.0, t.1, t.2, inr t.3)
  text_by κ (loop f q e s) h = let t = text_by κ (e s) (h.1 s) in (t.0, t.1, t.2, ends t.3)
  text_by κ (under j p) h = text_by j p h

  begins_then : {K R A B : Type 0} (κ : K) (p : Part K X R A) (q : A → Part K X R B) (a b : List X) (u : A) → Spells κ p a u → BeginsBy P κ (q u) b → BeginsBy P κ (sequence p q) (a ++ b)
  begins_then κ p q a b u h k = (k.0, k.1, k.2, (u, a, b ++ k.0, append_assoc a b k.0, h, k.3))

  begins_first : {K R A B : Type 0} (κ : K) (p : Part K X R A) (q : A → Part K X R B) (a : List X) → ((u : A) → HasText P κ (q u)) → BeginsBy P κ p a → BeginsBy P κ (sequence p q) a
  begins_first κ p q a live h =
      let t = live h.1 in
      (h.0 ++ t.0, t.1, all_both P h.0 t.0 h.2 t.2, (h.1, a ++ h.0, t.0, sym (append_assoc a h.0 t.0), h.3, t.3))

  begins_taken : {K R A C : Type 0} (κ : K) (f : K → X → Glance C R) (p : C → Part K X R A) (q : Part K X R A) (x : X) (c : C) (a : List X) → f κ x ≡ takes c → BeginsBy P κ (p c) a → BeginsBy P κ (ahead f p q) (x ∷ a)
  begins_taken κ f p q x c a e h = (h.0, h.1, h.2, inl (x, c, a ++ h.0, refl, e, h.3))

  begins_other : {K R A C : Type 0} (κ : K) (f : K → X → Glance C R) (p : C → Part K X R A) (q : Part K X R A) (a : List X) → BeginsBy P κ q a → BeginsBy P κ (ahead f p q) a
  begins_other κ f p q a h = (h.0, h.1, h.2, inr h.3)

  -- ---- what is read

  says_judged : {K R C : Type 0} (κ : K) (f : K → X → Result C R) → HasText {A = C} P κ (token f) → (x : X) (ts : List X) (r : Result C R) → f κ x ≡ r → SaysBy P κ (token f) (x ∷ ts) (judged x ts r)
  says_judged κ f live x ts (Ok c) e = (x ∷ [], refl, (x, refl, e), λ d k. rw e refl)
  says_judged κ f live x ts (Err r) e = ([], ts, refl, (live.0, live.1, live.2, live.3), λ d. rw e refl)

  pub says_token : {K R C : Type 0} (κ : K) (f : K → X → Result C R) → HasText {A = C} P κ (token f) → (ts : List X) → SaysBy P κ (token f) ts (take_token (f κ) ts)
  says_token κ f live [] = (live.0, live.1, live.2, live.3)
  says_token κ f live (x ∷ ts) = says_judged κ f live x ts (f κ x) refl

  module _ {K R A B : Type 0} (κ : K) (p : Part K X R A) (q : A → Part K X R B) (live : (u : A) → HasText P κ (q u)) where
    says_after : (ts a b : List X) (u : A) (r : Found X R B) → ts ≡ a ++ b → Spells κ p a u → ((d : List X) → Alike b d → read κ p (a ++ d) ≡ Ok (u, d)) → SaysBy P κ (q u) b r → SaysBy P κ (sequence p q) ts r
    says_after ts a b u (Ok y) e s again k = (
      a ++ k.0,
      regroup ts a b k.0 y.1 e k.1,
      (u, a, k.0, refl, s, k.2),
      λ d alike. rw (append_assoc a k.0 d, again (k.0 ++ d) (subst (λ (z : List X). Alike z (k.0 ++ d)) (sym k.1) (alike_behind k.0 y.1 d alike))) (k.3 d alike),
    )
    says_after ts a b u (Err (refused x r)) e s again k = (
      a ++ k.0,
      k.1,
      regroup ts a b k.0 (x ∷ k.1) e k.2,
      begins_then κ p q a k.0 u s k.3,
      λ d. rw (append_assoc a k.0 (x ∷ d), again (k.0 ++ x ∷ d) (subst (λ (z : List X). Alike z (k.0 ++ x ∷ d)) (sym k.2) (alike_behind k.0 (x ∷ k.1) (x ∷ d) refl))) (k.4 d),
    )
    says_after ts a b u (Err ended) e s again k = subst (BeginsBy P κ (sequence p q)) (sym e) (begins_then κ p q a b u s k)

    says_then : (ts : List X) (r : Found X R A) → SaysBy P κ p ts r → ((u : A) (a b : List X) → ts ≡ a ++ b → Spells κ p a u → SaysBy P κ (q u) b (read κ (q u) b)) → SaysBy P κ (sequence p q) ts (and_then r (λ x. read κ (q x.0) x.1))
    says_then ts (Ok x) h all = says_after ts h.0 x.1 x.0 (read κ (q x.0) x.1) h.1 h.2 h.3 (all x.0 h.0 x.1 h.1 h.2)
    says_then ts (Err (refused x r)) h all = (h.0, h.1, h.2, begins_first κ p q h.0 live h.3, λ d. rw (h.4 d) refl)
    says_then ts (Err ended) h all = begins_first κ p q ts live h

    -- what a sequence says, by what its parts say
    pub says_sequence : (ts : List X) → SaysBy P κ p ts (read κ p ts) → ((u : A) (a b : List X) → ts ≡ a ++ b → Spells κ p a u → SaysBy P κ (q u) b (read κ (q u) b)) → SaysBy P κ (sequence p q) ts (read κ (sequence p q) ts)
    says_sequence ts h all = says_then ts (read κ p ts) h all

  module _ {K R A C : Type 0} (κ : K) (f : K → X → Glance C R) (p : C → Part K X R A) (q : Part K X R A) (live : HasText P κ q) where
    says_taken : (x : X) (c : C) (ts : List X) (r : Found X R A) → f κ x ≡ takes c → SaysBy P κ (p c) ts r → SaysBy P κ (ahead f p q) (x ∷ ts) r
    says_taken x c ts (Ok y) e h = (x ∷ h.0, ap (λ (z : List X). x ∷ z) h.1, inl (x, c, h.0, refl, e, h.2), λ d alike. rw e (h.3 d alike))
    says_taken x c ts (Err (refused y r)) e h = (x ∷ h.0, h.1, ap (λ (z : List X). x ∷ z) h.2, begins_taken κ f p q x c h.0 e h.3, λ d. rw e (h.4 d))
    says_taken x c ts (Err ended) e h = begins_taken κ f p q x c ts e h

    left_on : (x : X) (d c : List X) → d ≡ x ∷ c → f κ x ≡ leaves → read κ (ahead f p q) d ≡ read κ q d
    left_on x d c e k = rw (e, k) refl

    says_left : (x : X) (ts : List X) (r : Found X R A) → f κ x ≡ leaves → SaysBy P κ q (x ∷ ts) r → SaysBy P κ (ahead f p q) (x ∷ ts) r
    says_left x ts (Ok y) e h =
        (h.0, h.1, inr h.2, λ d alike. let s = same_front x ts h.0 y.1 d h.1 alike in left_on x (h.0 ++ d) s.0 s.1 e ∙ h.3 d alike)
    says_left x ts (Err (refused y r)) e h =
        (h.0, h.1, h.2, begins_other κ f p q h.0 h.3, λ d. let s = same_front x ts h.0 (y ∷ h.1) (y ∷ d) h.2 refl in left_on x (h.0 ++ y ∷ d) s.0 s.1 e ∙ h.4 d)
    says_left x ts (Err ended) e h = begins_other κ f p q (x ∷ ts) h

    says_glanced : (x : X) (ts : List X) (g : Glance C R) → f κ x ≡ g → ((c : C) → f κ x ≡ takes c → SaysBy P κ (p c) ts (read κ (p c) ts)) → SaysBy P κ q (x ∷ ts) (read κ q (x ∷ ts))
        → SaysBy P κ (ahead f p q) (x ∷ ts) (glanced x ts g (λ c. read κ (p c)) (read κ q))
    says_glanced x ts (takes c) e h k = says_taken x c ts (read κ (p c) ts) e (h c e)
    says_glanced x ts (refuses r) e h k = ([], ts, refl, (live.0, live.1, live.2, inr live.3), λ d. rw e refl)
    says_glanced x ts leaves e h k = says_left x ts (read κ q (x ∷ ts)) e k

    pub says_ahead : (ts : List X) → ((x : X) (c : C) (b : List X) → ts ≡ x ∷ b → f κ x ≡ takes c → SaysBy P κ (p c) b (read κ (p c) b)) → SaysBy P κ q ts (read κ q ts) → SaysBy P κ (ahead f p q) ts (read κ (ahead f p q) ts)
    says_ahead [] h k = (live.0, live.1, live.2, inr live.3)
    says_ahead (x ∷ ts) h k = says_glanced x ts (f κ x) refl (λ c e. h x c ts refl e) k

  module _ {K R A C S : Type 0} (κ : K) (f : S → K → X → Glance C R) (q : S → C → Part K X R S) (e : S → Part K X R A) where
    says_opened : (s : S) (ts : List X) (r : Found X R A) → SaysBy P κ (opened f q e s) ts r → SaysBy P κ (loop f q e s) ts r
    says_opened s ts (Ok y) h = (h.0, h.1, close_loop κ f q e s h.0 y.0 h.2, λ d alike. read_loop κ f q e s (h.0 ++ d) ∙ h.3 d alike)
    says_opened s ts (Err (refused x r)) h = (h.0, h.1, h.2, (h.3.0, h.3.1, h.3.2, close_loop κ f q e s (h.0 ++ h.3.0) h.3.1 h.3.3), λ d. read_loop κ f q e s (h.0 ++ x ∷ d) ∙ h.4 d)
    says_opened s ts (Err ended) h = (h.0, h.1, h.2, close_loop κ f q e s (ts ++ h.0) h.1 h.3)

    loop_text : ((s : S) → HasText P κ (e s)) → (s : S) → HasText P κ (loop f q e s)
    loop_text quit s = let t = quit s in (t.0, t.1, t.2, ends t.3)

    -- a loop whose state and the number of tokens that are left keep a fact
    pub says_loop : (Keeps : S → ℕ → Type 0) → ((s : S) → HasText P κ (e s))
        → ((s : S) (c : C) (ts : List X) → Keeps s (suc (length ts)) → SaysBy P κ (q s c) ts (read κ (q s c) ts))
        → ((s t : S) (c : C) (a b : List X) → Keeps s (suc (length (a ++ b))) → Spells κ (q s c) a t → Keeps t (length b))
        → ((s : S) (ts : List X) → SaysBy P κ (e s) ts (read κ (e s) ts))
        → (n : ℕ) (s : S) (ts : List X) → length ts ≤ n → Keeps s (length ts) → SaysBy P κ (loop f q e s) ts (read κ (loop f q e s) ts)
    unfolding read_rounds
    says_loop Keeps quit one on end zero s [] le keeps = let t = quit s in (t.0, t.1, t.2, ends t.3)
    says_loop Keeps quit one on end zero s (x ∷ ts) le keeps = absurd (omega arith)
    says_loop Keeps quit one on end (suc n) s ts le keeps =
        subst (SaysBy P κ (loop f q e s) ts) (sym (read_loop κ f q e s ts))
        (says_opened s ts (read κ (opened f q e s) ts)
        (says_ahead κ (f s) (λ c. sequence (q s c) (λ t. loop f q e t)) (e s) (quit s) ts
        (λ x c b is taken. let there : Keeps s (suc (length b)) = subst (λ (z : List X). Keeps s (length z)) is keeps in
        let shorter : suc (length b) ≤ suc n = subst (λ (z : List X). length z ≤ suc n) is le in
        says_sequence κ (q s c) (λ t. loop f q e t) (loop_text quit) b (one s c b there)
        (λ t a d parts spells. says_loop Keeps quit one on end n t d (let l = ap length parts in let m = length-append a d in omega (arith, l, m, shorter)) (on s t c a d (subst (λ (z : List X). Keeps s (suc (length z))) parts there) spells)))
        (end s ts)))

  -- Every answer of the reading of a part that is live by such tokens says what it should.
  pub says_by : {K R A : Type 0} (κ : K) (p : Part K X R A) → IsLiveBy P κ p → (ts : List X) → SaysBy P κ p ts (read κ p ts)
  says_by κ (gives a) live ts = ([], refl, (refl, refl), λ d k. refl)
  says_by κ (token f) live ts = says_token κ f (live.0 ∷ [], live.1, (live.3, tt), (live.0, refl, live.2)) ts
  says_by κ (sequence p q) live ts = says_sequence κ p q (λ u. text_by κ (q u) (live.1 u)) ts (says_by κ p live.0 ts) (λ u a b parts spells. says_by κ (q u) (live.1 u) b)
  says_by κ (ahead f p q) live ts = says_ahead κ f p q (text_by κ q live.1) ts (λ x c b is taken. says_by κ (p c) (live.0 c) b) (says_by κ q live.1 ts)
  says_by κ (loop f q e s) live ts = says_loop κ f q e (λ _ _. Unit {0}) (λ s. text_by κ (e s) (live.1 s)) (λ s c ts k. says_by κ (q s c) (live.0 s c) ts) (λ s t c a b k spells. tt) (λ s ts. says_by κ (e s) (live.1 s) ts) (length ts) s ts (omega arith) tt
  says_by κ (under j p) live ts = says_by j p live ts

  pub text_then : {K R A B : Type 0} (κ : K) (p : Part K X R A) (q : A → Part K X R B) → HasText P κ p → ((u : A) → HasText P κ (q u)) → HasText P κ (sequence p q)
  text_then κ p q h k = let u = k h.1 in (h.0 ++ u.0, u.1, all_both P h.0 u.0 h.2 u.2, (h.1, h.0, u.0, refl, h.3, u.3))

-- ---- the same, with what is taken

-- from each place in the part some tokens of which P holds lead to its end, and G holds of each token that it takes
abbrev pub IsKeptBy : {K X R A : Type 0} → (X → Type 0) → (X → Type 0) → K → Part K X R A → Type 0
IsKeptBy P G k (gives a) = Unit {0}
IsKeptBy {X = X} P G k (token {A = A} f) = ((x : X) × (a : A) × (f k x ≡ Ok a) × P x) × ((x : X) (a : A) → f k x ≡ Ok a → G x)
IsKeptBy P G k (sequence {A = A} p q) = IsKeptBy P G k p × ((u : A) → IsKeptBy P G k (q u))
IsKeptBy {X = X} P G k (ahead {C = C} f p q) = ((x : X) (c : C) → f k x ≡ takes c → G x) × ((c : C) → IsKeptBy P G k (p c)) × IsKeptBy P G k q
IsKeptBy {X = X} P G k (loop {C = C} {S = S} f q e s) = ((s : S) (x : X) (c : C) → f s k x ≡ takes c → G x) × ((s : S) (c : C) → IsKeptBy P G k (q s c)) × ((s : S) → IsKeptBy P G k (e s))
IsKeptBy P G k (under j p) = IsKeptBy P G j p

module _ {X : Type 0} (P G : X → Type 0) where
  pub live_of : {K R A : Type 0} (κ : K) (p : Part K X R A) → IsKeptBy P G κ p → IsLiveBy P κ p
  live_of κ (gives a) h = tt
  live_of κ (token f) h = h.0
  live_of κ (sequence p q) h = (live_of κ p h.0, λ u. live_of κ (q u) (h.1 u))
  live_of κ (ahead f p q) h = (λ c. live_of κ (p c) (h.1 c), live_of κ q h.2)
  live_of κ (loop f q e s) h = (λ s c. live_of κ (q s c) (h.1 s c), λ s. live_of κ (e s) (h.2 s))
  live_of κ (under j p) h = live_of j p h

  pub taken_of : {K R A : Type 0} (κ : K) (p : Part K X R A) → IsKeptBy P G κ p → AllFit (λ _ _. Unit {0}) G κ p
  taken_of κ (gives a) h = tt
  taken_of κ (token f) h = (λ _ _ _. tt, h.1)
  taken_of κ (sequence p q) h = (taken_of κ p h.0, λ u. taken_of κ (q u) (h.1 u))
  taken_of κ (ahead f p q) h = (λ _ _ _. tt, h.0, λ c. taken_of κ (p c) (h.1 c), taken_of κ q h.2)
  taken_of κ (loop f q e s) h = (λ _ _ _ _. tt, h.0, λ s x c i. taken_of κ (q s c) (h.1 s c), λ s. taken_of κ (e s) (h.2 s))
  taken_of κ (under j p) h = taken_of j p h
