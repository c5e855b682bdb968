-- What a spelling means among definitions. That a definition spelled alike byte for byte goes first, and that two definitions may be alike
-- up to case, is this project's own rule (EDIF 2 0 0, identifiers).
use Rattle.std.specs.Prelude.{ℕ, List, [], ◌∷◌, Option, Some, None}
use Rattle.std.specs.List.{filter}
use Rattle.nl_base.specs.Case.{same_bytes, same_up_to_case}

-- the first of some things; all the others where there is none of them
abbrev pub first_or_all : {X : Type 0} → List X → List X → List X
first_or_all [] all = all
first_or_all (first ∷ rest) all = first ∷ []

-- the candidates of a spelling among numbered definitions: the first one spelled alike byte for byte, or, if there is none, all that are alike up to case
abbrev pub candidates : {A : Type 0} → (A → List ℕ) → List (ℕ × A) → List ℕ → List (ℕ × A)
candidates name definitions spelling =
    first_or_all (filter (λ definition. same_bytes (name definition.1) spelling) definitions) (filter (λ definition. same_up_to_case (name definition.1) spelling) definitions)

-- one candidate is what the reference means; with none or several it means nothing
abbrev pub the_only : {X : Type 0} → List X → Option X
the_only [] = None
the_only (one ∷ []) = Some one
the_only (one ∷ (two ∷ rest)) = None
