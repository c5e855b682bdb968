-- Which parts are live and closed, by how they are made: a few words for each production.
use Rattle.std.proofs.Common.{◌≡◌, Result, Ok, refl, inl, inr}
use Rattle.grammar.specs.Part.{Glance, gives, sequence, leaves}
use Rattle.grammar.specs.Clear.{Empty, First, Next, IsClosed, IsLive}
use Rattle.grammar.specs.Whole.{Terminal, proper, end}
use Rattle.grammar.proofs.Follow.{clear_fewer}
use Rattle.nl_base.specs.declared.place.Place.{Place}
use Rattle.nl_base.specs.declared.fault.Reason.{Reason}
use Rattle.readers.specs.Parts.{PartOf, at_token, one, if_next, while_next}

-- ---- live parts

pub live_one : {K X A : Type 0} (f : K → X → Result A Reason) (k : K) (x : X) (a : A) → f k x ≡ Ok a → IsLive k (one f)
unfolding one
live_one f k x a h = (proper x, a, h)

pub live_if : {K X A C : Type 0} (f : K → X → Glance C Reason) (p : C → PartOf K X A) (q : PartOf K X A) (k : K) → ((c : C) → IsLive k (p c)) → IsLive k q → IsLive k (if_next f p q)
unfolding if_next
live_if f p q k h l = (h, l)

pub live_while : {K X A C S : Type 0} (f : S → K → X → Glance C Reason) (q : S → C → PartOf K X S) (e : S → PartOf K X A) (s : S) (k : K) → ((s : S) (c : C) → IsLive k (q s c)) → ((s : S) → IsLive k (e s)) → IsLive k (while_next f q e s)
unfolding while_next
live_while f q e s k h l = (h, l)

-- ---- closed parts

pub closed_one : {K X A : Type 0} (f : K → X → Result A Reason) (k : K) → IsClosed k (one f)
unfolding one
closed_one f k = tt

pub closed_then : {K X A B : Type 0} (p : PartOf K X A) (q : A → PartOf K X B) (k : K) → IsClosed k p → ((u : A) → IsClosed k (q u)) → IsClosed k (sequence p q)
closed_then p q k h l = (clear_fewer k p (λ u. Next k (q u) (λ _ _. Unit {0})) (λ _ _. Unit {0}) (λ _ _ _. tt) h, l)

-- where a part that takes a token is due, no other token comes first, and it is not of no token
pub first_one : {K X A B : Type 0} (f : K → X → Result A Reason) (q : A → PartOf K X B) (k : K) (x : X) → First k (sequence (one f) q) (proper x) → (a : A) × (f k x ≡ Ok a)
unfolding one
first_one f q k x (inl h) = h
first_one f q k x (inr h) = absurd h.1

pub not_empty : {K X A B : Type 0} (f : K → X → Result A Reason) (q : A → PartOf K X B) (k : K) (v : B) → Empty k (sequence (one f) q) v → ⊥
unfolding one
not_empty f q k v h = h.1

-- what comes next is left, where the next token is the first of a part
left_by : {K X A C : Type 0} (f : X → Glance C Reason) (q : PartOf K X A) (k : K) (x : Terminal X Place) → ((x : X) → First k q (proper x) → f x ≡ leaves) → ((v : A) → Empty k q v → ⊥) → Next k q (λ _ _. Unit {0}) x → at_token f x ≡ leaves
left_by f q k (proper x) leave full (inl h) = leave x h
left_by f q k (end p) leave full h = refl
left_by f q k (proper x) leave full (inr h) = absurd (full h.0 h.1)

pub closed_if : {K X A C : Type 0} (f : K → X → Glance C Reason) (p : C → PartOf K X A) (q : PartOf K X A) (k : K) → ((c : C) → IsClosed k (p c)) → IsClosed k q → ((x : X) → First k q (proper x) → f k x ≡ leaves) → ((v : A) → Empty k q v → ⊥) → IsClosed k (if_next f p q)
unfolding if_next
closed_if f p q k h l leave full = (h, l, λ x n. left_by (f k) q k x leave full n)

pub closed_while : {K X A C S : Type 0} (f : S → K → X → Glance C Reason) (q : S → C → PartOf K X S) (e : S → PartOf K X A) (s : S) (k : K) → ((s : S) (c : C) → IsClosed k (q s c)) → ((s : S) → IsClosed k (e s)) → ((s : S) (x : X) → First k (e s) (proper x) → f s k x ≡ leaves) → ((s : S) (v : A) → Empty k (e s) v → ⊥) → IsClosed k (while_next f q e s)
unfolding while_next
closed_while f q e s k h l leave full = (
  λ s c. clear_fewer k (q s c) _ (λ _ _. Unit {0}) (λ _ _ _. tt) (h s c),
  l,
  λ s x n. left_by (f s k) (e s) k x (leave s) (full s) n,
)

-- ---- the same as a record, so that a part is found from the fact

-- The part is closed in the context.
pub record Shut {K X A : Type 0} (k : K) (p : PartOf K X A) : Type 0 where
  pub closed : IsClosed k p

pub shut_gives : {K X A : Type 0} (k : K) (a : A) → Shut {X = X} k (gives a)
shut_gives k a = record { closed = tt }

pub shut_one : {K X A : Type 0} (k : K) (f : K → X → Result A Reason) → Shut k (one f)
shut_one k f = record { closed = closed_one f k }

pub shut_then : {K X A B : Type 0} {p : PartOf K X A} {q : A → PartOf K X B} {k : K} → Shut k p → ((u : A) → Shut k (q u)) → Shut k (sequence p q)
shut_then {p = p} {q = q} {k = k} h l = record { closed = closed_then p q k h.closed (λ u. (l u).closed) }

-- [ ] and |, where the other part begins with a token
pub shut_if : {K X A B C : Type 0} (k : K) (f : K → X → Glance C Reason) (p : C → PartOf K X A) (h : K → X → Result B Reason) (r : B → PartOf K X A) → ((c : C) → Shut k (p c)) → ((b : B) → Shut k (r b)) → ((x : X) (b : B) → h k x ≡ Ok b → f k x ≡ leaves) → Shut k (if_next f p (sequence (one h) r))
shut_if k f p h r one_way other leave = record {
  closed = closed_if f p (sequence (one h) r) k (λ c. (one_way c).closed) (closed_then (one h) r k (closed_one h k) (λ b. (other b).closed))
      (λ x n. let e = first_one h r k x n in leave x e.0 e.1) (λ v n. not_empty h r k v n);
}

-- { }, where what follows the rounds begins with a token
pub shut_while : {K X A B C S : Type 0} (k : K) (f : S → K → X → Glance C Reason) (q : S → C → PartOf K X S) (h : S → K → X → Result B Reason) (r : S → B → PartOf K X A) (s : S) → ((s : S) (c : C) → Shut k (q s c)) → ((s : S) (b : B) → Shut k (r s b)) → ((s : S) (x : X) (b : B) → h s k x ≡ Ok b → f s k x ≡ leaves) → Shut k (while_next f q (λ s. sequence (one (h s)) (r s)) s)
shut_while k f q h r s round last leave = record {
  closed = closed_while f q (λ s. sequence (one (h s)) (r s)) s k (λ s c. (round s c).closed) (λ s. closed_then (one (h s)) (r s) k (closed_one (h s) k) (λ b. (last s b).closed))
      (λ s x n. let e = first_one (h s) (r s) k x n in leave s x e.0 e.1) (λ s v n. not_empty (h s) (r s) k v n);
}
