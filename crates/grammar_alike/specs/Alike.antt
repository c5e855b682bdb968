-- Tokens that are alike, and parts that say the same of them.
use Rattle.std.specs.Prelude.{◌≡◌, List, [], ◌∷◌}
use Rattle.grammar.specs.Part.{Part, gives, token, sequence, ahead, loop, under, takes}

-- two lists of which each item is alike that of the other at its place
abbrev pub AreAlike : {X : Type 0} → (X → X → Type 0) → List X → List X → Type 0
AreAlike E [] [] = Unit {0}
AreAlike E [] (y ∷ ys) = ⊥
AreAlike E (x ∷ xs) [] = ⊥
AreAlike E (x ∷ xs) (y ∷ ys) = E x y × AreAlike E xs ys

-- The part says the same of two tokens that are alike, wherever it looks at one.
abbrev pub Respects : {K X R A : Type 0} → (X → X → Type 0) → K → Part K X R A → Type 0
Respects E k (gives a) = Unit {0}
Respects {X = X} E k (token f) = (x y : X) → E x y → f k x ≡ f k y
Respects E k (sequence {A = A} p q) = Respects E k p × ((u : A) → Respects E k (q u))
Respects {X = X} E k (ahead {C = C} f p q) =
    ((x y : X) → E x y → f k x ≡ f k y)
    × ((x : X) (c : C) → f k x ≡ takes c → Respects E k (p c)) × Respects E k q
Respects {X = X} E k (loop {C = C} {S = S} f q e s) =
    ((s : S) (x y : X) → E x y → f s k x ≡ f s k y)
    × ((s : S) (x : X) (c : C) → f s k x ≡ takes c → Respects E k (q s c))
    × ((s : S) → Respects E k (e s))
Respects E k (under j p) = Respects E j p
