-- What a part refuses and what it takes, wherever it stands in a text.
use Rattle.std.proofs.Common.{◌≡◌, ℕ, zero, suc, List, [], ◌∷◌, length, Result, Ok, Err, refl, sym, subst, ◌++◌, inl, inr}
use Rattle.grammar.specs.Part.{Part, gives, token, sequence, ahead, loop, under, Glance, takes, refuses, leaves}
use Rattle.grammar.specs.Texts.{Spells, Rounds, ends, goes}
use Rattle.grammar_laws.specs.GoesOn.{AllOf}
use Rattle.grammar.specs.Reading.{refused, ended, Found, and_then, judged, glanced, look_ahead, rounds, read_rounds, read}

-- wherever the part refuses a token for a reason, F holds of them, and G holds of each token that it takes
abbrev pub AllFit : {K X R A : Type 0} → (X → R → Type 0) → (X → Type 0) → K → Part K X R A → Type 0
AllFit F G k (gives a) = Unit {0}
AllFit {X = X} {R = R} F G k (token {A = A} f) = ((x : X) (r : R) → f k x ≡ Err r → F x r) × ((x : X) (a : A) → f k x ≡ Ok a → G x)
AllFit F G k (sequence {A = A} p q) = AllFit F G k p × ((u : A) → AllFit F G k (q u))
AllFit {X = X} {R = R} F G k (ahead {C = C} f p q) = ((x : X) (r : R) → f k x ≡ refuses r → F x r) × ((x : X) (c : C) → f k x ≡ takes c → G x) × ((c : C) → AllFit F G k (p c)) × AllFit F G k q
AllFit {X = X} {R = R} F G k (loop {C = C} {S = S} f q e s) =
    ((s : S) (x : X) (r : R) → f s k x ≡ refuses r → F x r) × ((s : S) (x : X) (c : C) → f s k x ≡ takes c → G x) × ((s : S) (x : X) (c : C) → f s k x ≡ takes c → AllFit F G k (q s c)) × ((s : S) → AllFit F G k (e s))
AllFit F G k (under j p) = AllFit F G j p

abbrev pub OnRefused : {X R A : Type 0} → (X → R → Type 0) → Found X R A → Type 0
OnRefused F (Ok y) = Unit {0}
OnRefused F (Err (refused x r)) = F x r
OnRefused F (Err ended) = Unit {0}

then_fits : {X R A B : Type 0} (F : X → R → Type 0) (r : Found X R A) (f : (A × List X) → Found X R B) → OnRefused F r → ((y : A × List X) → OnRefused F (f y)) → OnRefused F (and_then r f)
then_fits F (Ok y) f h k = k y
then_fits F (Err (refused x r)) f h k = h
then_fits F (Err ended) f h k = tt

judged_fits : {X R C : Type 0} (F : X → R → Type 0) (x : X) (ts : List X) (g r : Result C R) → g ≡ r → ((e : R) → g ≡ Err e → F x e) → OnRefused F (judged x ts r)
judged_fits F x ts g (Ok c) e h = tt
judged_fits F x ts g (Err r) e h = h r e

glanced_fits : {X R A C : Type 0} (F : X → R → Type 0) (x : X) (ts : List X) (g r : Glance C R) → g ≡ r → ((e : R) → g ≡ refuses e → F x e) → (k : C → List X → Found X R A) (l : List X → Found X R A)
    → ((c : C) (b : List X) → g ≡ takes c → OnRefused F (k c b)) → ((b : List X) → OnRefused F (l b)) → OnRefused F (glanced x ts r k l)
glanced_fits F x ts g (takes c) e h k l hk hl = hk c ts e
glanced_fits F x ts g (refuses r) e h k l hk hl = h r e
glanced_fits F x ts g leaves e h k l hk hl = hl (x ∷ ts)

look_fits : {X R A C : Type 0} (F : X → R → Type 0) (f : X → Glance C R) → ((x : X) (r : R) → f x ≡ refuses r → F x r) → (k : C → List X → Found X R A) (l : List X → Found X R A)
    → ((x : X) (c : C) (b : List X) → f x ≡ takes c → OnRefused F (k c b)) → ((b : List X) → OnRefused F (l b)) → (ts : List X) → OnRefused F (look_ahead f k l ts)
look_fits F f h k l hk hl [] = tt
look_fits F f h k l hk hl (x ∷ ts) = glanced_fits F x ts (f x) (f x) refl (h x) k l (hk x) hl

rounds_fit : {X R A C S : Type 0} (F : X → R → Type 0) (n : ℕ) (f : S → X → Glance C R) → ((s : S) (x : X) (r : R) → f s x ≡ refuses r → F x r) → (k : S → C → List X → Found X R S) (l : S → List X → Found X R A)
    → ((s : S) (x : X) (c : C) (b : List X) → f s x ≡ takes c → OnRefused F (k s c b)) → ((s : S) (b : List X) → OnRefused F (l s b)) → (s : S) (ts : List X) → OnRefused F (rounds n f k l s ts)
rounds_fit F zero f h k l hk hl s ts = tt
rounds_fit F (suc n) f h k l hk hl s ts =
    look_fits F (f s) (h s) (λ c b. and_then (k s c b) (λ y. rounds n f k l y.0 y.1)) (l s)
    (λ x c b e. then_fits F (k s c b) (λ y. rounds n f k l y.0 y.1) (hk s x c b e) (λ y. rounds_fit F n f h k l hk hl y.0 y.1)) (hl s) ts

pub fits : {K X R A : Type 0} (F : X → R → Type 0) (G : X → Type 0) (k : K) (p : Part K X R A) → AllFit F G k p → (ts : List X) → OnRefused F (read k p ts)
unfolding read_rounds
fits F G k (gives a) h ts = tt
fits F G k (token f) h [] = tt
fits F G k (token f) h (x ∷ ts) = judged_fits F x ts (f k x) (f k x) refl (h.0 x)
fits F G k (sequence p q) h ts = then_fits F (read k p ts) (λ y. read k (q y.0) y.1) (fits F G k p h.0 ts) (λ y. fits F G k (q y.0) (h.1 y.0) y.1)
fits F G k (ahead f p q) h ts = look_fits F (f k) h.0 (λ c. read k (p c)) (read k q) (λ x c b e. fits F G k (p c) (h.2 c) b) (λ b. fits F G k q h.3 b) ts
fits F G k (loop f q e s) h ts =
    rounds_fit F (length ts) (λ s. f s k) h.0 (λ s c. read k (q s c)) (λ s. read k (e s)) (λ s x c b i. fits F G k (q s c) (h.2 s x c i) b) (λ s b. fits F G k (e s) (h.3 s) b) s ts
fits F G k (under j p) h ts = fits F G j p h ts

-- a token that is refused for a reason fits
pub refused_fits : {K X R A : Type 0} (F : X → R → Type 0) (G : X → Type 0) (k : K) (p : Part K X R A) → AllFit F G k p → (ts : List X) (x : X) (r : R) → read k p ts ≡ Err (refused x r) → F x r
refused_fits F G k p h ts x r e = subst (OnRefused F) e (fits F G k p h ts)

-- the same with less said of what is taken
pub fewer_fit : {K X R A : Type 0} (F : X → R → Type 0) (G H : X → Type 0) → ((x : X) → G x → H x) → (k : K) (p : Part K X R A) → AllFit F G k p → AllFit F H k p
fewer_fit F G H less k (gives a) h = tt
fewer_fit F G H less k (token f) h = (h.0, λ x a e. less x (h.1 x a e))
fewer_fit F G H less k (sequence p q) h = (fewer_fit F G H less k p h.0, λ u. fewer_fit F G H less k (q u) (h.1 u))
fewer_fit F G H less k (ahead f p q) h = (h.0, λ x c e. less x (h.1 x c e), λ c. fewer_fit F G H less k (p c) (h.2 c), fewer_fit F G H less k q h.3)
fewer_fit F G H less k (loop f q e s) h = (h.0, λ s x c i. less x (h.1 s x c i), λ s x c i. fewer_fit F G H less k (q s c) (h.2 s x c i), λ s. fewer_fit F G H less k (e s) (h.3 s))
fewer_fit F G H less k (under j p) h = fewer_fit F G H less j p h

-- ---- what a text has

pub all_both : {X : Type 0} (P : X → Type 0) (a b : List X) → AllOf P a → AllOf P b → AllOf P (a ++ b)
all_both P [] b h k = k
all_both P (x ∷ a) b h k = (h.0, all_both P a b h.1 k)

rounds_have : {X R A C S : Type 0} (G : X → Type 0) (f : S → X → Glance C R) (Q : S → C → List X → S → Type 0) (E : S → List X → A → Type 0)
    → ((s : S) (x : X) (c : C) → f s x ≡ takes c → G x) → ((s : S) (x : X) (c : C) → f s x ≡ takes c → (ts : List X) (t : S) → Q s c ts t → AllOf G ts) → ((s : S) (ts : List X) (v : A) → E s ts v → AllOf G ts)
    → (s : S) (ts : List X) (v : A) → Rounds f Q E s ts v → AllOf G ts
rounds_have G f Q E hx hq he s ts v (ends h) = he s ts v h
rounds_have G f Q E hx hq he s ts v (goes t a b taken rest e) =
    subst (AllOf G) (sym e) (all_both G a b
    (subst (AllOf G) (sym taken.3) (hx s taken.0 taken.1 taken.4, hq s taken.0 taken.1 taken.4 taken.2 t taken.5))
    (rounds_have G f Q E hx hq he t b v rest))

-- the fact holds of each token of a text
pub text_has : {K X R A : Type 0} (F : X → R → Type 0) (G : X → Type 0) (k : K) (p : Part K X R A) → AllFit F G k p → (ts : List X) (v : A) → Spells k p ts v → AllOf G ts
text_has F G k (gives a) h ts v s = subst (AllOf G) (sym s.0) tt
text_has F G k (token f) h ts v s = subst (AllOf G) (sym s.1) (h.1 s.0 v s.2, tt)
text_has F G k (sequence p q) h ts v s = subst (AllOf G) (sym s.3) (all_both G s.1 s.2 (text_has F G k p h.0 s.1 s.0 s.4) (text_has F G k (q s.0) (h.1 s.0) s.2 v s.5))
text_has F G k (ahead f p q) h ts v (inl s) = subst (AllOf G) (sym s.3) (h.1 s.0 s.1 s.4, text_has F G k (p s.1) (h.2 s.1) s.2 v s.5)
text_has F G k (ahead f p q) h ts v (inr s) = text_has F G k q h.3 ts v s
text_has F G k (loop f q e s) h ts v r =
    rounds_have G (λ s. f s k) (λ s c. Spells k (q s c)) (λ s. Spells k (e s)) h.1 (λ s x c i ts t. text_has F G k (q s c) (h.2 s x c i) ts t) (λ s. text_has F G k (e s) (h.3 s)) s ts v r
text_has F G k (under j p) h ts v s = text_has F G j p h ts v s
