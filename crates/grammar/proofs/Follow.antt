-- What may follow a part, and what a part is clear with.
use Rattle.std.proofs.Common.{◌≡◌, subst, Result, Ok, ◌⊎◌, inl, inr}
use Rattle.grammar.specs.Part.{Part, gives, token, sequence, ahead, loop, under, Glance, takes}
use Rattle.grammar.specs.Clear.{Empty, First, Next, IsClear}

pub next_fewer : {K X R A : Type 0} (κ : K) (p : Part K X R A) (F G : A → X → Type 0) → ((v : A) (x : X) → F v x → G v x) → (x : X) → Next κ p F x → Next κ p G x
next_fewer κ p F G h x (inl n) = inl n
next_fewer κ p F G h x (inr n) = inr (n.0, n.1, h n.0 x n.2)

-- A part that is clear is so with fewer tokens after it.
pub clear_fewer : {K X R A : Type 0} (κ : K) (p : Part K X R A) (F G : A → X → Type 0) → ((v : A) (x : X) → F v x → G v x) → IsClear κ p G → IsClear κ p F
clear_fewer κ (gives a) F G h k = tt
clear_fewer κ (token f) F G h k = tt
clear_fewer κ (sequence p q) F G h k =
    (clear_fewer κ p (λ u. Next κ (q u) F) (λ u. Next κ (q u) G) (λ u x n. next_fewer κ (q u) F G h x n) k.0, λ u. clear_fewer κ (q u) F G h (k.1 u))
clear_fewer κ (ahead f p q) F G h k = (λ c. clear_fewer κ (p c) F G h (k.0 c), clear_fewer κ q F G h k.1, λ x n. k.2 x (next_fewer κ q F G h x n))
clear_fewer κ (loop f q e s) F G h k = (
  λ s c. clear_fewer κ (q s c) (λ t. Next κ (loop f q e t) F) (λ t. Next κ (loop f q e t) G) (λ t x n. next_fewer κ (loop f q e t) F G h x n) (k.0 s c),
  λ s. clear_fewer κ (e s) F G h (k.1 s),
  λ s x n. k.2 s x (next_fewer κ (e s) F G h x n),
)
clear_fewer κ (under j p) F G h k = clear_fewer j p F G h k

-- where a part that takes a token is due, no other token comes next
pub next_token : {K X R A B : Type 0} (κ : K) (f : K → X → Result A R) (q : A → Part K X R B) (F : B → X → Type 0) (x : X) → Next κ (sequence (token f) q) F x → (a : A) × (f κ x ≡ Ok a)
next_token κ f q F x (inl (inl n)) = n
next_token κ f q F x (inl (inr n)) = absurd n.1
next_token κ f q F x (inr n) = absurd n.1.1

-- where a part gives a value without a token, what follows it comes next
pub next_given : {X A : Type 0} (K R : Type 0) (κ : K) (a : A) (F : A → X → Type 0) (x : X) → Next {K = K} {R = R} κ (gives a) F x → F a x
next_given K R κ a F x (inl n) = absurd n
next_given K R κ a F x (inr n) = subst (λ v. F v x) n.1 n.2

pub next_then : {K X R A B : Type 0} (κ : K) (p : Part K X R A) (q : A → Part K X R B) (F : B → X → Type 0) (x : X) → Next κ (sequence p q) F x → First κ p x ⊎ ((u : A) × Empty κ p u × Next κ (q u) F x)
next_then κ p q F x (inl (inl n)) = inl n
next_then κ p q F x (inl (inr n)) = inr (n.0, n.1, inl n.2)
next_then κ p q F x (inr n) = inr (n.1.0, n.1.1, inr (n.0, n.1.2, n.2))

pub next_ahead : {K X R A C : Type 0} (κ : K) (f : K → X → Glance C R) (p : C → Part K X R A) (q : Part K X R A) (F : A → X → Type 0) (x : X) → Next κ (ahead f p q) F x → ((c : C) × (f κ x ≡ takes c)) ⊎ Next κ q F x
next_ahead κ f p q F x (inl (inl n)) = inl n
next_ahead κ f p q F x (inl (inr n)) = inr (inl n)
next_ahead κ f p q F x (inr n) = inr (inr n)

pub next_loop : {K X R A C S : Type 0} (κ : K) (f : S → K → X → Glance C R) (q : S → C → Part K X R S) (e : S → Part K X R A) (s : S) (F : A → X → Type 0) (x : X) → Next κ (loop f q e s) F x → ((c : C) × (f s κ x ≡ takes c)) ⊎ Next κ (e s) F x
next_loop κ f q e s F x (inl (inl n)) = inl n
next_loop κ f q e s F x (inl (inr n)) = inr (inl n)
next_loop κ f q e s F x (inr n) = inr (inr n)
