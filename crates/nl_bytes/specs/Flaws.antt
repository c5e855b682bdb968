-- What some bytes spell, or why they spell nothing.
use Rattle.std.specs.Prelude.{ℕ, ◌+◌, nat_lt, if◌then◌else◌, List, take, Result, Ok, Err}
use Rattle.nl_base.specs.declared.place.Place.{Place}
use Rattle.nl_base.specs.Place.{place_past}
use Rattle.nl_base.specs.declared.fault.TextFault.{TextFault}
use Rattle.nl_base.specs.declared.fault.ReadError.{ReadError}
use Rattle.nl_base.specs.declared.fault.ReadError.TheVariants.{Text, TooLong}
use Rattle.nl_base.specs.declared.fault.Reason.{Reason}
use Rattle.nl_bytes.specs.declared.bytes.TheConstants.{LIMIT}

-- What is spelled, how many bytes it has, and how many had to be seen.
pub record Piece (A : Type 0) : Type 0 where
  pub value : A
  pub count : ℕ
  pub seen : ℕ

-- A fault: why, how many bytes stand before its place, and how many had to be seen.
pub record Flaw : Type 0 where
  pub reason : Reason
  pub before : ℕ
  pub seen : ℕ

infixl 10 ◌>>=◌
abbrev pub ◌>>=◌ : {A B : Type 0} → Result A Flaw → (A → Result B Flaw) → Result B Flaw
(Ok x) >>= f = f x
(Err e) >>= f = Err e

abbrev pub flaw : {A : Type 0} → Reason → ℕ → ℕ → Result A Flaw
flaw reason before seen = Err (record { reason = reason; before = before; seen = seen })

-- a fault of a token that begins at a place, where `bs` are the bytes from there on
abbrev pub fault_at : Place → List ℕ → Flaw → TextFault
fault_at p bs f = record { place = place_past p (take f.before bs); stop = p.offset + f.seen; reason = f.reason }

-- a fault, or that the input is too long where the fault's stop is past the limit
abbrev pub refusal : Place → ℕ → Reason → ReadError
refusal p stop reason = if nat_lt LIMIT stop then TooLong else Text (record { place = p; stop = stop; reason = reason })
