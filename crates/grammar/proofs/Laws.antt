-- What is read is spelled so, and it is read so whatever comes after the next token.
use Rattle.std.proofs.Common.{◌≡◌, ℕ, zero, suc, ◌≤◌, List, [], ◌∷◌, ◌++◌, length, Result, Ok, Err, refl, sym, ap, subst, ◌∙◌, append_assoc, arith, inl, inr}
use Rattle.grammar.specs.Part.{Part, gives, token, sequence, ahead, loop, under, Glance, takes, refuses, leaves}
use Rattle.grammar.specs.Texts.{ends, Spells, Begins}
use Rattle.grammar.specs.Reading.{refused, ended, and_then, Found, judged, take_token, glanced, read_rounds, read}
use Rattle.grammar.specs.Clear.{IsLive}
use Rattle.grammar.proofs.Loops.{Fewer, fewer, opened, read_loop, close_loop}

-- what is seen of the tokens that are left: the next one, or nothing where none is left
abbrev pub Alike : {X : Type 0} → List X → List X → Type 0
Alike [] d = Unit {0}
Alike (x ∷ b) [] = ⊥
Alike (x ∷ b) (y ∷ d) = x ≡ y

alike_behind : {X : Type 0} (a b d : List X) → Alike b d → Alike (a ++ b) (a ++ d)
alike_behind [] b d h = h
alike_behind (x ∷ a) b d h = refl

abbrev pub Says : {K X R A : Type 0} → K → Part K X R A → List X → Found X R A → Type 0
Says {X = X} κ p ts (Ok x) = (a : List X) × (ts ≡ a ++ x.1) × Spells κ p a x.0 × ((d : List X) → Alike x.1 d → read κ p (a ++ d) ≡ Ok (x.0, d))
Says {X = X} κ p ts (Err (refused x r)) = (a : List X) × (c : List X) × (ts ≡ a ++ x ∷ c) × Begins κ p a × ((d : List X) → read κ p (a ++ x ∷ d) ≡ Err (refused x r))
Says κ p ts (Err ended) = Begins κ p ts

regroup : {X : Type 0} (ts a b c d : List X) → ts ≡ a ++ b → b ≡ c ++ d → ts ≡ (a ++ c) ++ d
regroup ts a b c d e f = e ∙ ap (λ (z : List _). a ++ z) f ∙ sym (append_assoc a c d)

-- ---- some text

pub some_text : {K X R A : Type 0} (κ : K) (p : Part K X R A) → IsLive κ p → (ts : List X) × (v : A) × Spells κ p ts v
some_text κ (gives a) h = ([], a, (refl, refl))
some_text κ (token f) h = (h.0 ∷ [], h.1, (h.0, refl, h.2))
some_text κ (sequence p q) h =
    let t = some_text κ p h.0 in
    let u = some_text κ (q t.1) (h.1 t.1) in
    (t.0 ++ u.0, u.1, (t.1, t.0, u.0, refl, t.2, u.2))
some_text κ (ahead f p q) h = let t = some_text κ q h.1 in (t.0, t.1, inr t.2)
some_text κ (loop f q e s) h = let t = some_text κ (e s) (h.1 s) in (t.0, t.1, ends t.2)
some_text κ (under j p) h = some_text j p h

pub begins_then : {K X R A B : Type 0} (κ : K) (p : Part K X R A) (q : A → Part K X R B) (a b : List X) (u : A) → Spells κ p a u → Begins κ (q u) b → Begins κ (sequence p q) (a ++ b)
begins_then κ p q a b u h k = (k.0, k.1, (u, a, b ++ k.0, append_assoc a b k.0, h, k.2))

pub begins_first : {K X R A B : Type 0} (κ : K) (p : Part K X R A) (q : A → Part K X R B) (a : List X) → ((u : A) → IsLive κ (q u)) → Begins κ p a → Begins κ (sequence p q) a
begins_first κ p q a live h =
    let t = some_text κ (q h.1) (live h.1) in
    (h.0 ++ t.0, t.1, (h.1, a ++ h.0, t.0, sym (append_assoc a h.0 t.0), h.2, t.2))

pub begins_taken : {K X R A C : Type 0} (κ : K) (f : K → X → Glance C R) (p : C → Part K X R A) (q : Part K X R A) (x : X) (c : C) (a : List X) → f κ x ≡ takes c → Begins κ (p c) a → Begins κ (ahead f p q) (x ∷ a)
begins_taken κ f p q x c a e h = (h.0, h.1, inl (x, c, a ++ h.0, refl, e, h.2))

pub begins_other : {K X R A C : Type 0} (κ : K) (f : K → X → Glance C R) (p : C → Part K X R A) (q : Part K X R A) (a : List X) → Begins κ q a → Begins κ (ahead f p q) a
begins_other κ f p q a h = (h.0, h.1, inr h.2)

-- ---- what is read is spelled so

says_judged : {K X R C : Type 0} (κ : K) (f : K → X → Result C R) → IsLive {A = C} κ (token f) → (x : X) (ts : List X) (r : Result C R) → f κ x ≡ r → Says κ (token f) (x ∷ ts) (judged x ts r)
says_judged κ f live x ts (Ok c) e = (x ∷ [], refl, (x, refl, e), λ d k. rw e refl)
says_judged κ f live x ts (Err r) e = ([], ts, refl, (live.0 ∷ [], live.1, (live.0, refl, live.2)), λ d. rw e refl)

says_token : {K X R C : Type 0} (κ : K) (f : K → X → Result C R) → IsLive {A = C} κ (token f) → (ts : List X) → Says κ (token f) ts (take_token (f κ) ts)
says_token κ f live [] = (live.0 ∷ [], live.1, (live.0, refl, live.2))
says_token κ f live (x ∷ ts) = says_judged κ f live x ts (f κ x) refl

module _ {K X R A B : Type 0} (κ : K) (p : Part K X R A) (q : A → Part K X R B) (live : (u : A) → IsLive κ (q u)) where
  says_after : (ts a b : List X) (u : A) (r : Found X R B) → ts ≡ a ++ b → Spells κ p a u → ((d : List X) → Alike b d → read κ p (a ++ d) ≡ Ok (u, d)) → Says κ (q u) b r → Says κ (sequence p q) ts r
  says_after ts a b u (Ok y) e s again k = (
    a ++ k.0,
    regroup ts a b k.0 y.1 e k.1,
    (u, a, k.0, refl, s, k.2),
    λ d alike. rw (append_assoc a k.0 d, again (k.0 ++ d) (subst (λ (z : List X). Alike z (k.0 ++ d)) (sym k.1) (alike_behind k.0 y.1 d alike))) (k.3 d alike),
  )
  says_after ts a b u (Err (refused x r)) e s again k = (
    a ++ k.0,
    k.1,
    regroup ts a b k.0 (x ∷ k.1) e k.2,
    begins_then κ p q a k.0 u s k.3,
    λ d. rw (append_assoc a k.0 (x ∷ d), again (k.0 ++ x ∷ d) (subst (λ (z : List X). Alike z (k.0 ++ x ∷ d)) (sym k.2) (alike_behind k.0 (x ∷ k.1) (x ∷ d) refl))) (k.4 d),
  )
  says_after ts a b u (Err ended) e s again k = subst (Begins κ (sequence p q)) (sym e) (begins_then κ p q a b u s k)

  says_then : (ts : List X) (r : Found X R A) → Says κ p ts r → Fewer ts r → ((u : A) (b : List X) → length b ≤ length ts → Says κ (q u) b (read κ (q u) b)) → Says κ (sequence p q) ts (and_then r (λ x. read κ (q x.0) x.1))
  says_then ts (Ok x) h few all = says_after ts h.0 x.1 x.0 (read κ (q x.0) x.1) h.1 h.2 h.3 (all x.0 x.1 few)
  says_then ts (Err (refused x r)) h few all = (h.0, h.1, h.2, begins_first κ p q h.0 live h.3, λ d. rw (h.4 d) refl)
  says_then ts (Err ended) h few all = begins_first κ p q ts live h

-- what begins with a token still does where the rest is alike
same_front : {X : Type 0} (x : X) (ts a b d : List X) → x ∷ ts ≡ a ++ b → Alike b d → (c : List X) × (a ++ d ≡ x ∷ c)
same_front x ts [] [] d e h = absurd cc
same_front x ts [] (y ∷ b) [] e h = absurd h
same_front x ts [] (y ∷ b) (z ∷ d) e h = let k : z ≡ x = cc in (d, ap (λ z. z ∷ d) k)
same_front x ts (y ∷ a) b d e h = let k : y ≡ x = cc in (a ++ d, ap (λ z. z ∷ (a ++ d)) k)

module _ {K X R A C : Type 0} (κ : K) (f : K → X → Glance C R) (p : C → Part K X R A) (q : Part K X R A) (live : IsLive κ q) where
  says_taken : (x : X) (c : C) (ts : List X) (r : Found X R A) → f κ x ≡ takes c → Says κ (p c) ts r → Says κ (ahead f p q) (x ∷ ts) r
  says_taken x c ts (Ok y) e h = (x ∷ h.0, ap (λ (z : List X). x ∷ z) h.1, inl (x, c, h.0, refl, e, h.2), λ d alike. rw e (h.3 d alike))
  says_taken x c ts (Err (refused y r)) e h = (x ∷ h.0, h.1, ap (λ (z : List X). x ∷ z) h.2, begins_taken κ f p q x c h.0 e h.3, λ d. rw e (h.4 d))
  says_taken x c ts (Err ended) e h = begins_taken κ f p q x c ts e h

  left_on : (x : X) (d c : List X) → d ≡ x ∷ c → f κ x ≡ leaves → read κ (ahead f p q) d ≡ read κ q d
  left_on x d c e k = rw (e, k) refl

  says_left : (x : X) (ts : List X) (r : Found X R A) → f κ x ≡ leaves → Says κ q (x ∷ ts) r → Says κ (ahead f p q) (x ∷ ts) r
  says_left x ts (Ok y) e h =
      (h.0, h.1, inr h.2, λ d alike. let s = same_front x ts h.0 y.1 d h.1 alike in left_on x (h.0 ++ d) s.0 s.1 e ∙ h.3 d alike)
  says_left x ts (Err (refused y r)) e h =
      (h.0, h.1, h.2, begins_other κ f p q h.0 h.3, λ d. let s = same_front x ts h.0 (y ∷ h.1) (y ∷ d) h.2 refl in left_on x (h.0 ++ y ∷ d) s.0 s.1 e ∙ h.4 d)
  says_left x ts (Err ended) e h = begins_other κ f p q (x ∷ ts) h

  says_glanced : (x : X) (ts : List X) (g : Glance C R) → f κ x ≡ g → ((c : C) → Says κ (p c) ts (read κ (p c) ts)) → Says κ q (x ∷ ts) (read κ q (x ∷ ts))
      → Says κ (ahead f p q) (x ∷ ts) (glanced x ts g (λ c. read κ (p c)) (read κ q))
  says_glanced x ts (takes c) e h k = says_taken x c ts (read κ (p c) ts) e (h c)
  says_glanced x ts (refuses r) e h k =
      let t = some_text κ q live in
      ([], ts, refl, (t.0, t.1, inr t.2), λ d. rw e refl)
  says_glanced x ts leaves e h k = says_left x ts (read κ q (x ∷ ts)) e k

  says_ahead : (ts : List X) → ((c : C) (b : List X) → suc (length b) ≤ length ts → Says κ (p c) b (read κ (p c) b)) → Says κ q ts (read κ q ts) → Says κ (ahead f p q) ts (read κ (ahead f p q) ts)
  says_ahead [] h k = let t = some_text κ q live in (t.0, t.1, inr t.2)
  says_ahead (x ∷ ts) h k = says_glanced x ts (f κ x) refl (λ c. h c ts (omega arith)) k

module _ {K X R A C S : Type 0} (κ : K) (f : S → K → X → Glance C R) (q : S → C → Part K X R S) (e : S → Part K X R A) where
  says_opened : (s : S) (ts : List X) (r : Found X R A) → Says κ (opened f q e s) ts r → Says κ (loop f q e s) ts r
  says_opened s ts (Ok y) h = (h.0, h.1, close_loop κ f q e s h.0 y.0 h.2, λ d alike. read_loop κ f q e s (h.0 ++ d) ∙ h.3 d alike)
  says_opened s ts (Err (refused x r)) h = (h.0, h.1, h.2, (h.3.0, h.3.1, close_loop κ f q e s (h.0 ++ h.3.0) h.3.1 h.3.2), λ d. read_loop κ f q e s (h.0 ++ x ∷ d) ∙ h.4 d)
  says_opened s ts (Err ended) h = (h.0, h.1, close_loop κ f q e s (ts ++ h.0) h.1 h.2)

  says_loop : ((s : S) (c : C) → IsLive κ (q s c)) → ((s : S) → IsLive κ (e s)) → ((s : S) (c : C) (ts : List X) → Says κ (q s c) ts (read κ (q s c) ts)) → ((s : S) (ts : List X) → Says κ (e s) ts (read κ (e s) ts))
      → (n : ℕ) (s : S) (ts : List X) → length ts ≤ n → Says κ (loop f q e s) ts (read κ (loop f q e s) ts)
  unfolding read_rounds
  says_loop live quit one end zero s [] le = let t = some_text κ (e s) (quit s) in (t.0, t.1, ends t.2)
  says_loop live quit one end zero s (x ∷ ts) le = absurd (omega arith)
  says_loop live quit one end (suc n) s ts le =
      subst (Says κ (loop f q e s) ts) (sym (read_loop κ f q e s ts))
      (says_opened s ts (read κ (opened f q e s) ts)
      (says_ahead κ (f s) (λ c. sequence (q s c) (λ t. loop f q e t)) (e s) (quit s) ts
      (λ c b shorter. says_then κ (q s c) (λ t. loop f q e t) (λ t. (live, quit)) b (read κ (q s c) b) (one s c b) (fewer κ (q s c) b) (λ t d few. says_loop live quit one end n t d (omega arith)))
      (end s ts)))

-- Every answer of the reading says what it should.
pub says : {K X R A : Type 0} (κ : K) (p : Part K X R A) → IsLive κ p → (ts : List X) → Says κ p ts (read κ p ts)
says κ (gives a) live ts = ([], refl, (refl, refl), λ d k. refl)
says κ (token f) live ts = says_token κ f live ts
says κ (sequence p q) live ts = says_then κ p q live.1 ts (read κ p ts) (says κ p live.0 ts) (fewer κ p ts) (λ u b le. says κ (q u) (live.1 u) b)
says κ (ahead f p q) live ts = says_ahead κ f p q live.1 ts (λ c b le. says κ (p c) (live.0 c) b) (says κ q live.1 ts)
says κ (loop f q e s) live ts = says_loop κ f q e live.0 live.1 (λ s c. says κ (q s c) (live.0 s c)) (λ s. says κ (e s) (live.1 s)) (length ts) s ts (omega arith)
says κ (under j p) live ts = says j p live ts
