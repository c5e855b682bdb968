-- The first fault of tokens as a text of a part.
use Rattle.std.specs.Prelude.{◌≡◌, List, [], ◌∷◌, ◌++◌, Err}
use Rattle.grammar.specs.Part.{Part}
use Rattle.grammar.specs.Texts.{Spells, Begins}
use Rattle.grammar.specs.Clear.{Bars}
use Rattle.grammar.specs.Reading.{refused, read}

-- The next token, if any is left, can go on with what stands before it.
abbrev pub GoesOnInto : {K X R A : Type 0} → K → Part K X R A → List X → List X → Type 0
GoesOnInto {X = X} k p before [] = (x : X) × Begins k p (before ++ x ∷ [])
GoesOnInto k p before (x ∷ rest) = Begins k p (before ++ x ∷ [])

-- The tokens begin with a text of the part, which the next token cannot go on with.
pub record Takes {K X R A : Type 0} (k : K) (p : Part K X R A) (ts : List X) (v : A) (rest : List X) : Type 0 where
  pub text : List X
  pub place : ts ≡ text ++ rest
  pub is_text : Spells k p text v
  pub stops : GoesOnInto k p text rest → ⊥

-- A token before which the tokens can go on to a text, and with which they cannot, and which is refused for the reason.
pub record Faults {K X R A : Type 0} (k : K) (p : Part K X R A) (ts : List X) (x : X) (reason : R) : Type 0 where
  pub before : List X
  pub after : List X
  pub place : ts ≡ before ++ x ∷ after
  pub goes_on : Begins k p before
  pub stops : Begins k p (before ++ x ∷ []) → ⊥
  -- the tokens before are no text yet, or the part bars the token
  pub is_due : (v : A) → Spells k p before v → Bars k p x reason
  pub reason_is : read k p (before ++ x ∷ []) ≡ Err (refused x reason)
