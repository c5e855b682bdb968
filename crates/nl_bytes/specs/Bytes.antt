-- What a reader of bytes holds, and what its calls use up.
use Rattle.std.specs.Prelude.{◌≡◌, ◌⊎◌, ⊤, ℕ, ◌+◌, ◌-◌, ◌<◌, ◌≤◌, false, List, [], ◌∷◌, ◌++◌, length, Option, Some, None, IsTrue, Result, IfOk, OnOk, IfSome, IsErrOf}
use Rattle.std.specs.Io.KnownBytes.{prepend_known, Consumes, IsAtEnd}
use Rattle.nl_base.specs.declared.place.Place.{Place}
use Rattle.nl_base.specs.Place.{place_past}
use Rattle.nl_io.specs.Sources.{left_past}
use Rattle.nl_bytes.specs.Classes.{AreIn, in_class}
use Rattle.nl_bytes.specs.declared.class.Class.{Class}
use Rattle.nl_bytes.specs.declared.halt.Halt.{Halt}
use Rattle.nl_bytes.specs.declared.halt.Halt.TheVariants.{TooLong, Failed}
use Rattle.nl_bytes.specs.declared.bytes.TheConstants.{LIMIT}

-- the bytes that were taken from the source and not used yet, and the place of the first
pub record Window : Type 0 where
  pub held : List ℕ
  pub place : Place

-- all bytes that are still to be used, where the source tells what it has left
abbrev pub input : Window → Option (List ℕ) → Option (List ℕ)
input w left = prepend_known w.held left

-- how many bytes were taken from the source since the text's start
abbrev pub given : Window → ℕ
given w = w.place.offset + length w.held

-- Nothing was taken from the source, or all bytes that were taken before are used.
abbrev pub TakesWhenUsed : Window → Window → Type 0
TakesWhenUsed old new = (given new ≡ given old) ⊎ (given old ≤ new.place.offset)

-- These bytes were used: they stood at the front of the input, and the place went past them. What was taken from the source is the front of what it had left.
pub record Uses (old new : Window) (left left' : Option (List ℕ)) (used : List ℕ) : Type 0 where
  pub bytes : Consumes (input old left) (input new left') used
  pub place : new.place ≡ place_past old.place used
  pub taken : given old ≤ given new
  pub suffix : left' ≡ left_past (given new - given old) left
  pub lazy : TakesWhenUsed old new

-- the byte ahead, or none at the end
abbrev pub IsAhead : Window → Option (List ℕ) → Option ℕ → Type 0
IsAhead w left None = (w.held ≡ []) × IsAtEnd left
IsAhead w left (Some b) = (rest : List ℕ) × (w.held ≡ b ∷ rest)

-- the byte at the front, if any
abbrev pub first : List ℕ → Option ℕ
first [] = None
first (b ∷ bs) = Some b

-- bytes of a class were used and added to an output, as many as there are, but at most so many
pub record Runs (class : Class) (most : ℕ) (old new : Window) (left left' : Option (List ℕ)) (before after : List ℕ) (result : Result (Option ℕ) Halt) : Type 0 where
  pub used : List ℕ
  pub uses : Uses old new left left' used
  pub each : AreIn class used
  pub bounded : length used ≤ most
  pub added : after ≡ before ++ used
  pub ahead : IfOk result (IsAhead new left')
  pub longest : IfOk result (λ next. IfSome next (λ b. IsTrue (in_class class b) → length used ≡ most))
  pub within : OnOk result (new.place.offset ≤ LIMIT)
  pub too_long : IsErrOf result TooLong → LIMIT < new.place.offset
  -- a read that fails was asked for with no byte at hand
  pub used_up : IsErrOf result Failed → new.held ≡ []

-- bytes of a class were used, as many as there are
pub record Skips (class : Class) (old new : Window) (left left' : Option (List ℕ)) (result : Result (Option ℕ) Halt) : Type 0 where
  pub used : List ℕ
  pub uses : Uses old new left left' used
  pub each : AreIn class used
  pub ahead : IfOk result (IsAhead new left')
  pub longest : IfOk result (λ next. IfSome next (λ b. in_class class b ≡ false))
  pub within : OnOk result (new.place.offset ≤ LIMIT)
  pub too_long : IsErrOf result TooLong → LIMIT < new.place.offset
  -- a read that fails was asked for with no byte at hand
  pub used_up : IsErrOf result Failed → new.held ≡ []

-- a source that tells its bytes gave at most n
abbrev pub TookAtMost : Option (List ℕ) → Option (List ℕ) → ℕ → Type 0
TookAtMost None left' n = ⊤
TookAtMost (Some bs) None n = ⊥
TookAtMost (Some bs) (Some rest) n = length bs ≤ length rest + n
