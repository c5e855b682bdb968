-- Which lists of tokens spell a value of a part, in a context.
use Rattle.std.specs.Prelude.{◌≡◌, List, [], ◌∷◌, ◌++◌, Result, Ok, ◌⊎◌}
use Rattle.grammar.specs.Part.{Part, gives, token, sequence, ahead, loop, under, Glance, takes}

-- one token that says the value
abbrev pub TokenText : {X R A : Type 0} → (X → Result A R) → List X → A → Type 0
TokenText {X = X} f ts v = (x : X) × (ts ≡ x ∷ []) × (f x ≡ Ok v)

-- one text after the other
abbrev pub ThenText : {X A B : Type 0} → (List X → A → Type 0) → (A → List X → B → Type 0) → List X → B → Type 0
ThenText {X = X} {A = A} P Q ts v = (u : A) × (a : List X) × (b : List X) × (ts ≡ a ++ b) × P a u × Q u b v

-- a token that is taken, and a text
abbrev pub TakenText : {X R A C : Type 0} → (X → Glance C R) → (C → List X → A → Type 0) → List X → A → Type 0
TakenText {X = X} {C = C} f P ts v = (x : X) × (c : C) × (a : List X) × (ts ≡ x ∷ a) × (f x ≡ takes c) × P c a v

-- rounds one after the other, each in the state that the one before it leaves, and a text at the end
pub data Rounds {X R A C S : Type 0} (f : S → X → Glance C R) (Q : S → C → List X → S → Type 0) (E : S → List X → A → Type 0) : S → List X → A → Type 0 where
  ends : {s : S} {ts : List X} {v : A} → E s ts v → Rounds f Q E s ts v
  goes : {s : S} {ts : List X} {v : A} (t : S) (a b : List X) → TakenText (f s) (Q s) a t → Rounds f Q E t b v → ts ≡ a ++ b → Rounds f Q E s ts v

-- The tokens spell the value.
abbrev pub Spells : {K X R A : Type 0} → K → Part K X R A → List X → A → Type 0
Spells k (gives a) ts v = (ts ≡ []) × (v ≡ a)
Spells k (token f) ts v = TokenText (f k) ts v
Spells k (sequence p q) ts v = ThenText (Spells k p) (λ u. Spells k (q u)) ts v
Spells k (ahead f p q) ts v = TakenText (f k) (λ c. Spells k (p c)) ts v ⊎ Spells k q ts v
Spells k (loop f q e s) ts v = Rounds (λ s. f s k) (λ s c. Spells k (q s c)) (λ s. Spells k (e s)) s ts v
Spells k (under j p) ts v = Spells j p ts v

-- The tokens are the front of a text of the part.
abbrev pub Begins : {K X R A : Type 0} → K → Part K X R A → List X → Type 0
Begins {X = X} {A = A} k p ts = (more : List X) × (v : A) × Spells k p (ts ++ more) v
