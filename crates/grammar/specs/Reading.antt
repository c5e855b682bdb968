-- Reading a part from the left, with one token of look-ahead, up to the first token that may not stand.
use Rattle.std.specs.Prelude.{ℕ, zero, suc, List, [], ◌∷◌, length, Result, Ok, Err}
use Rattle.grammar.specs.Part.{Part, gives, token, sequence, ahead, loop, under, Glance, takes, refuses, leaves}

-- where a text stops: at a token that may not stand there, or where the tokens end and one more has to be seen
pub data Stop (X R : Type 0) : Type 0 where
  refused : X → R → Stop X R
  ended : Stop X R

-- the second step from what the first one gives
abbrev pub and_then : {A B E : Type 0} → Result A E → (A → Result B E) → Result B E
and_then (Ok x) f = f x
and_then (Err e) f = Err e

-- a value and the tokens after it, or what the text stops at
abbrev pub Found : Type 0 → Type 0 → Type 0 → Type 0
Found X R A = Result (A × List X) (Stop X R)

-- a token that was taken says a value, or is refused
abbrev pub judged : {X R C : Type 0} → X → List X → Result C R → Found X R C
judged x ts (Ok c) = Ok (c, ts)
judged x ts (Err r) = Err (refused x r)

-- one token is taken
abbrev pub take_token : {X R C : Type 0} → (X → Result C R) → List X → Found X R C
take_token f [] = Err ended
take_token f (x ∷ ts) = judged x ts (f x)

-- a token that was looked at is taken, is refused, or stays for another part
abbrev pub glanced : {X R A C : Type 0} → X → List X → Glance C R → (C → List X → Found X R A) → (List X → Found X R A) → Found X R A
glanced x ts (takes c) k e = k c ts
glanced x ts (refuses r) k e = Err (refused x r)
glanced x ts leaves k e = e (x ∷ ts)

-- one token is looked at
abbrev pub look_ahead : {X R A C : Type 0} → (X → Glance C R) → (C → List X → Found X R A) → (List X → Found X R A) → List X → Found X R A
look_ahead f k e [] = Err ended
look_ahead f k e (x ∷ ts) = glanced x ts (f x) k e

-- at most so many rounds, which is enough where that many tokens are left
abbrev pub rounds : {X R A C S : Type 0} → ℕ → (S → X → Glance C R) → (S → C → List X → Found X R S) → (S → List X → Found X R A) → S → List X → Found X R A
rounds zero f k e s ts = Err ended
rounds (suc n) f k e s ts = look_ahead (f s) (λ c b. and_then (k s c b) (λ y. rounds n f k e y.0 y.1)) (e s) ts

-- as many rounds as the tokens have
unfoldable pub read_rounds : {X R A C S : Type 0} → (S → X → Glance C R) → (S → C → List X → Found X R S) → (S → List X → Found X R A) → S → List X → Found X R A
read_rounds f k e s ts = rounds (length ts) f k e s ts

-- what the tokens read as, in a context
abbrev pub read : {K X R A : Type 0} → K → Part K X R A → List X → Found X R A
read k (gives a) ts = Ok (a, ts)
read k (token f) ts = take_token (f k) ts
read k (sequence p q) ts = and_then (read k p ts) (λ x. read k (q x.0) x.1)
read k (ahead f p q) ts = look_ahead (f k) (λ c. read k (p c)) (read k q) ts
read k (loop f q e s) ts = read_rounds (λ s. f s k) (λ s c. read k (q s c)) (λ s. read k (e s)) s ts
read k (under j p) ts = read j p ts
