-- Tokens of which a fact holds, and what they go on with to a text.
use Rattle.std.specs.Prelude.{List, [], ◌∷◌, ◌++◌}
use Rattle.grammar.specs.Part.{Part}
use Rattle.grammar.specs.Texts.{Spells}

-- the fact holds of all
abbrev pub AllOf : {X : Type 0} → (X → Type 0) → List X → Type 0
AllOf P [] = Unit {0}
AllOf P (x ∷ xs) = P x × AllOf P xs

-- tokens of which the fact holds go on with these to a text
abbrev pub BeginsBy : {K X R A : Type 0} → (X → Type 0) → K → Part K X R A → List X → Type 0
BeginsBy {X = X} {A = A} P k p ts = (more : List X) × (v : A) × AllOf P more × Spells k p (ts ++ more) v
