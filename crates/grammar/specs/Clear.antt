-- When one token of look-ahead tells how a text goes on.
use Rattle.std.specs.Prelude.{◌≡◌, Ok, ◌⊎◌}
use Rattle.grammar.specs.Part.{Part, gives, token, sequence, ahead, loop, under, takes, refuses, leaves}

-- No tokens spell the value.
abbrev pub Empty : {K X R A : Type 0} → K → Part K X R A → A → Type 0
Empty k (gives a) v = v ≡ a
Empty k (token f) v = ⊥
Empty k (sequence {A = A} p q) v = (u : A) × Empty k p u × Empty k (q u) v
Empty k (ahead f p q) v = Empty k q v
Empty k (loop f q e s) v = Empty k (e s) v
Empty k (under j p) v = Empty j p v

-- A text may begin with the token.
abbrev pub First : {K X R A : Type 0} → K → Part K X R A → X → Type 0
First k (gives a) x = ⊥
First k (token {A = A} f) x = (a : A) × (f k x ≡ Ok a)
First k (sequence {A = A} p q) x = First k p x ⊎ ((u : A) × Empty k p u × First k (q u) x)
First k (ahead {C = C} f p q) x = ((c : C) × (f k x ≡ takes c)) ⊎ First k q x
First k (loop {C = C} f q e s) x = ((c : C) × (f s k x ≡ takes c)) ⊎ First k (e s) x
First k (under j p) x = First j p x

-- The token may come where the part is due and F follows it.
abbrev pub Next : {K X R A : Type 0} → K → Part K X R A → (A → X → Type 0) → X → Type 0
Next {A = A} k p F x = First k p x ⊎ ((v : A) × Empty k p v × F v x)

-- Where F follows the part, a token that can be taken where it stands belongs there.
abbrev pub IsClear : {K X R A : Type 0} → K → Part K X R A → (A → X → Type 0) → Type 0
IsClear k (gives a) F = Unit {0}
IsClear k (token f) F = Unit {0}
IsClear k (sequence {A = A} p q) F = IsClear k p (λ u. Next k (q u) F) × ((u : A) → IsClear k (q u) F)
IsClear {X = X} k (ahead {C = C} f p q) F = ((c : C) → IsClear k (p c) F) × IsClear k q F × ((x : X) → Next k q F x → f k x ≡ leaves)
IsClear {X = X} k (loop {C = C} {S = S} f q e s) F =
    ((s : S) (c : C) → IsClear k (q s c) (λ t. Next k (loop f q e t) F)) × ((s : S) → IsClear k (e s) F) × ((s : S) (x : X) → Next k (e s) F x → f s k x ≡ leaves)
IsClear k (under j p) F = IsClear j p F

-- The part is clear whatever follows it: none of its texts goes on to another.
abbrev pub IsClosed : {K X R A : Type 0} → K → Part K X R A → Type 0
IsClosed k p = IsClear k p (λ _ _. Unit {0})

-- From each place in the part some tokens lead to its end.
abbrev pub IsLive : {K X R A : Type 0} → K → Part K X R A → Type 0
IsLive k (gives a) = Unit {0}
IsLive {X = X} k (token {A = A} f) = (x : X) × (a : A) × (f k x ≡ Ok a)
IsLive k (sequence {A = A} p q) = IsLive k p × ((u : A) → IsLive k (q u))
IsLive k (ahead {C = C} f p q) = ((c : C) → IsLive k (p c)) × IsLive k q
IsLive k (loop {C = C} {S = S} f q e s) = ((s : S) (c : C) → IsLive k (q s c)) × ((s : S) → IsLive k (e s))
IsLive k (under j p) = IsLive j p

-- The part may refuse the token for the reason at a place where it need not take one.
abbrev pub Bars : {K X R A : Type 0} → K → Part K X R A → X → R → Type 0
Bars k (gives a) x r = ⊥
Bars k (token f) x r = ⊥
Bars k (sequence {A = A} p q) x r = Bars k p x r ⊎ ((u : A) × Bars k (q u) x r)
Bars k (ahead {C = C} f p q) x r = (f k x ≡ refuses r) ⊎ (((c : C) × Bars k (p c) x r) ⊎ Bars k q x r)
Bars k (loop {C = C} {S = S} f q e s) x r = ((t : S) × (f t k x ≡ refuses r)) ⊎ (((t : S) × (c : C) × Bars k (q t c) x r) ⊎ ((t : S) × Bars k (e t) x r))
Bars k (under j p) x r = Bars j p x r
