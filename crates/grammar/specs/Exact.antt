-- A part of which the reading from the left is what its texts say.
use Rattle.std.specs.Prelude.{◌≡◌, ◌↔◌, List, ◌∷◌, ◌++◌, Ok, Err}
use Rattle.grammar.specs.Part.{Part}
use Rattle.grammar.specs.Texts.{Spells}
use Rattle.grammar.specs.Reading.{refused, read}
use Rattle.grammar.specs.Faults.{Takes, Faults}

-- The reading of the part is what its tokens spell, where a text that could go on has a token behind it of which `Follows` says that it does not.
pub record IsExact {K X R A : Type 0} (k : K) (p : Part K X R A) (Follows : X → Type 0) : Type 0 where
  -- one list of tokens spells at most one value
  pub one_value : (text : List X) (v w : A) → Spells k p text v → Spells k p text w → v ≡ w
  -- what is read is a text that the next token does not go on with, and its value; what is left is what stands behind the text
  pub is_text : (tokens rest : List X) (v : A) → read k p tokens ≡ Ok (v, rest) → Takes k p tokens v rest
  -- a text is read where what stands behind it does not go on with it
  pub is_read : (text rest : List X) (next : X) (v : A) → Spells k p text v → Follows next → read k p (text ++ next ∷ rest) ≡ Ok (v, next ∷ rest)
  -- a token is refused for a reason exactly where it is the first fault, for this reason
  pub is_fault : (tokens : List X) (x : X) (reason : R) → (read k p tokens ≡ Err (refused x reason)) ↔ Faults k p tokens x reason
