-- The parts of a grammar. A token is of a type X, and a token that may not stand is refused for a reason of a type R.
-- What a token says may depend on a context of a type K, which no part names.
use Rattle.std.specs.Prelude.{Result}

-- what a part does about a token that it need not take
pub data Glance (C R : Type 0) : Type 0 where
  takes : C → Glance C R
  refuses : R → Glance C R
  leaves : Glance C R

-- a part whose texts spell values of a type
pub data Part (K X R : Type 0) : Type 0 → Type 1 where
  -- no token, for this value
  gives : {A : Type 0} → A → Part K X R A
  -- one token: what it says, or why it may not stand here
  token : {A : Type 0} → (K → X → Result A R) → Part K X R A
  -- one part after the other
  sequence : {A B : Type 0} → Part K X R A → (A → Part K X R B) → Part K X R B
  -- [ ] and |: a token that is taken and what follows it, or another part
  ahead : {A C : Type 0} → (K → X → Glance C R) → (C → Part K X R A) → Part K X R A → Part K X R A
  -- { }: any number of rounds, each of a token that is taken and what follows it, and then another part
  loop : {A C S : Type 0} → (S → K → X → Glance C R) → (S → C → Part K X R S) → (S → Part K X R A) → S → Part K X R A
  -- the part in another context
  under : {A : Type 0} → K → Part K X R A → Part K X R A

infixl 10 ◌>>=◌
-- One part, and then the part that its value says.
abbrev pub ◌>>=◌ : {K X R A B : Type 0} → Part K X R A → (A → Part K X R B) → Part K X R B
p >>= q = sequence p q
