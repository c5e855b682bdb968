-- A loop is one round and then the loop again, or what follows the rounds.
use Rattle.std.proofs.Common.{◌≡◌, ℕ, zero, suc, ◌≤◌, List, [], ◌∷◌, ◌++◌, length, Result, Ok, Err, refl, ap, ◌∙◌, arith, inl, inr}
use Rattle.grammar.specs.Part.{Part, gives, token, sequence, ahead, loop, under, Glance, takes, refuses, leaves}
use Rattle.grammar.specs.Texts.{ends, goes, Spells}
use Rattle.grammar.specs.Reading.{and_then, Found, judged, take_token, glanced, look_ahead, rounds, read_rounds, read}

-- no more is left than there was
abbrev pub Fewer : {X R A : Type 0} → List X → Found X R A → Type 0
Fewer ts (Ok x) = length x.1 ≤ length ts
Fewer ts (Err stop) = Unit {0}

fewer_by : {X R A : Type 0} (ts b : List X) (r : Found X R A) → length b ≤ length ts → Fewer b r → Fewer ts r
fewer_by ts b (Ok x) le h = omega arith
fewer_by ts b (Err stop) le h = tt

fewer_judged : {X R A : Type 0} (x : X) (ts : List X) (r : Result A R) → Fewer (x ∷ ts) (judged x ts r)
fewer_judged x ts (Ok c) = omega arith
fewer_judged x ts (Err r) = tt

fewer_token : {X R A : Type 0} (f : X → Result A R) (ts : List X) → Fewer ts (take_token f ts)
fewer_token f [] = tt
fewer_token f (x ∷ ts) = fewer_judged x ts (f x)

fewer_then : {X R A B : Type 0} (ts : List X) (r : Found X R A) (k : A → List X → Found X R B) → Fewer ts r → ((u : A) (b : List X) → Fewer b (k u b)) → Fewer ts (and_then r (λ x. k x.0 x.1))
fewer_then ts (Ok x) k h all = fewer_by ts x.1 (k x.0 x.1) h (all x.0 x.1)
fewer_then ts (Err stop) k h all = tt

fewer_glanced : {X R A C : Type 0} (x : X) (ts : List X) (g : Glance C R) (k : C → List X → Found X R A) (e : List X → Found X R A) → ((c : C) (b : List X) → Fewer b (k c b)) → ((b : List X) → Fewer b (e b)) → Fewer (x ∷ ts) (glanced x ts g k e)
fewer_glanced x ts (takes c) k e h l = fewer_by (x ∷ ts) ts (k c ts) (omega arith) (h c ts)
fewer_glanced x ts (refuses r) k e h l = tt
fewer_glanced x ts leaves k e h l = l (x ∷ ts)

fewer_ahead : {X R A C : Type 0} (f : X → Glance C R) (k : C → List X → Found X R A) (e : List X → Found X R A) (ts : List X) → ((c : C) (b : List X) → Fewer b (k c b)) → ((b : List X) → Fewer b (e b)) → Fewer ts (look_ahead f k e ts)
fewer_ahead f k e [] h l = tt
fewer_ahead f k e (x ∷ ts) h l = fewer_glanced x ts (f x) k e h l

fewer_rounds : {X R A C S : Type 0} (n : ℕ) (f : S → X → Glance C R) (k : S → C → List X → Found X R S) (e : S → List X → Found X R A) (s : S) (ts : List X)
    → ((s : S) (c : C) (b : List X) → Fewer b (k s c b)) → ((s : S) (b : List X) → Fewer b (e s b)) → Fewer ts (rounds n f k e s ts)
fewer_rounds zero f k e s ts h l = tt
fewer_rounds (suc n) f k e s ts h l =
    fewer_ahead (f s) (λ c b. and_then (k s c b) (λ y. rounds n f k e y.0 y.1)) (e s) ts (λ c b. fewer_then b (k s c b) (rounds n f k e) (h s c b) (λ t d. fewer_rounds n f k e t d h l)) (l s)

pub fewer : {K X R A : Type 0} (κ : K) (p : Part K X R A) (ts : List X) → Fewer ts (read κ p ts)
unfolding read_rounds
fewer κ (gives a) ts = omega arith
fewer κ (token f) ts = fewer_token (f κ) ts
fewer κ (sequence p q) ts = fewer_then ts (read κ p ts) (λ u. read κ (q u)) (fewer κ p ts) (λ u. fewer κ (q u))
fewer κ (ahead f p q) ts = fewer_ahead (f κ) (λ c. read κ (p c)) (read κ q) ts (λ c. fewer κ (p c)) (fewer κ q)
fewer κ (loop f q e s) ts = fewer_rounds (length ts) (λ s. f s κ) (λ s c. read κ (q s c)) (λ s. read κ (e s)) s ts (λ s c. fewer κ (q s c)) (λ s. fewer κ (e s))
fewer κ (under j p) ts = fewer j p ts

module _ {X R A C S : Type 0} (f : S → X → Glance C R) (k : S → C → List X → Found X R S) (e : S → List X → Found X R A) (few : (s : S) (c : C) (b : List X) → Fewer b (k s c b)) where
  same_then : (n m : ℕ) (ts : List X) (r : Found X R S) → length ts ≤ n → length ts ≤ m → Fewer ts r
      → ((s : S) (b : List X) → length b ≤ n → length b ≤ m → rounds n f k e s b ≡ rounds m f k e s b) → and_then r (λ y. rounds n f k e y.0 y.1) ≡ and_then r (λ y. rounds m f k e y.0 y.1)
  same_then n m ts (Ok y) le lf h all = all y.0 y.1 (omega arith) (omega arith)
  same_then n m ts (Err stop) le lf h all = refl

  same_glanced : (n m : ℕ) (s : S) (x : X) (ts : List X) (g : Glance C R) → length ts ≤ n → length ts ≤ m
      → ((s : S) (b : List X) → length b ≤ n → length b ≤ m → rounds n f k e s b ≡ rounds m f k e s b)
      → glanced x ts g (λ c b. and_then (k s c b) (λ y. rounds n f k e y.0 y.1)) (e s) ≡ glanced x ts g (λ c b. and_then (k s c b) (λ y. rounds m f k e y.0 y.1)) (e s)
  same_glanced n m s x ts (takes c) le lf all = same_then n m ts (k s c ts) le lf (few s c ts) all
  same_glanced n m s x ts (refuses r) le lf all = refl
  same_glanced n m s x ts leaves le lf all = refl

  same_rounds : (n m : ℕ) (s : S) (ts : List X) → length ts ≤ n → length ts ≤ m → rounds n f k e s ts ≡ rounds m f k e s ts
  same_rounds zero zero s ts le lf = refl
  same_rounds zero (suc m) s [] le lf = refl
  same_rounds zero (suc m) s (x ∷ ts) le lf = absurd (omega arith)
  same_rounds (suc n) zero s [] le lf = refl
  same_rounds (suc n) zero s (x ∷ ts) le lf = absurd (omega arith)
  same_rounds (suc n) (suc m) s [] le lf = refl
  same_rounds (suc n) (suc m) s (x ∷ ts) le lf = same_glanced n m s x ts (f s x) (omega arith) (omega arith) (same_rounds n m)

  after_round : (m : ℕ) (ts : List X) (r : Found X R S) → length ts ≤ m → Fewer ts r → and_then r (λ y. rounds m f k e y.0 y.1) ≡ and_then r (λ y. read_rounds f k e y.0 y.1)
  unfolding read_rounds
  after_round m ts (Ok y) le h = same_rounds m (length y.1) y.0 y.1 (omega arith) (omega arith)
  after_round m ts (Err stop) le h = refl

  after_glance : (m : ℕ) (s : S) (x : X) (ts : List X) (g : Glance C R) → length ts ≤ m
      → glanced x ts g (λ c b. and_then (k s c b) (λ y. rounds m f k e y.0 y.1)) (e s) ≡ glanced x ts g (λ c b. and_then (k s c b) (λ y. read_rounds f k e y.0 y.1)) (e s)
  after_glance m s x ts (takes c) le = after_round m ts (k s c ts) le (few s c ts)
  after_glance m s x ts (refuses r) le = refl
  after_glance m s x ts leaves le = refl

  one_round : (s : S) (ts : List X) → read_rounds f k e s ts ≡ look_ahead (f s) (λ c b. and_then (k s c b) (λ y. read_rounds f k e y.0 y.1)) (e s) ts
  unfolding read_rounds
  one_round s [] = same_rounds 0 1 s [] (omega arith) (omega arith)
  one_round s (x ∷ ts) = same_rounds (length (x ∷ ts)) (suc (length ts)) s (x ∷ ts) (omega arith) (omega arith) ∙ after_glance (length ts) s x ts (f s x) (omega arith)

-- A loop, as one round and the loop again, or what follows.
abbrev pub opened : {K X R A C S : Type 0} → (S → K → X → Glance C R) → (S → C → Part K X R S) → (S → Part K X R A) → S → Part K X R A
opened f q e s = ahead (f s) (λ c. sequence (q s c) (λ t. loop f q e t)) (e s)

pub read_loop : {K X R A C S : Type 0} (κ : K) (f : S → K → X → Glance C R) (q : S → C → Part K X R S) (e : S → Part K X R A) (s : S) (ts : List X) → read κ (loop f q e s) ts ≡ read κ (opened f q e s) ts
read_loop κ f q e s ts = one_round (λ s. f s κ) (λ s c. read κ (q s c)) (λ s. read κ (e s)) (λ s c. fewer κ (q s c)) s ts

pub open_loop : {K X R A C S : Type 0} (κ : K) (f : S → K → X → Glance C R) (q : S → C → Part K X R S) (e : S → Part K X R A) (s : S) (ts : List X) (v : A) → Spells κ (loop f q e s) ts v → Spells κ (opened f q e s) ts v
open_loop κ f q e s ts v (ends h) = inr h
open_loop κ f q e s ts v (goes t a b h rest parts) =
    inl (h.0, h.1, h.2 ++ b, parts ∙ ap (λ (z : List _). z ++ b) h.3, h.4, (t, h.2, b, refl, h.5, rest))

pub close_loop : {K X R A C S : Type 0} (κ : K) (f : S → K → X → Glance C R) (q : S → C → Part K X R S) (e : S → Part K X R A) (s : S) (ts : List X) (v : A) → Spells κ (opened f q e s) ts v → Spells κ (loop f q e s) ts v
close_loop κ f q e s ts v (inr h) = ends h
close_loop κ f q e s ts v (inl h) =
    let k = h.5 in
    goes k.0 (h.0 ∷ k.1) k.2 (h.0, h.1, k.1, refl, h.4, k.4) k.5 (h.3 ∙ ap (λ (z : List _). h.0 ∷ z) k.3)
