-- Names, numbers, reals, based literals and directives: as many bytes as go on.
use Rattle.std.specs.Prelude.{◌≡◌, ℕ, ◌+◌, ◌<◌, ◌≤◌, nat_le, if◌then◌else◌, List, [], ◌∷◌, ◌++◌, drop, length, Option, Some, None, Result, Ok, IfOk, OnOk, IsErrOf}
use Rattle.nl_base.specs.declared.fault.Reason.TheVariants.{EndOfInput, BadByte, TokenTooLong}
use Rattle.vlog_tokens.specs.declared.phase.Phase.{Phase}
use Rattle.nl_bytes.specs.Bytes.{Window, Uses, IsAhead, first}
use Rattle.nl_bytes.specs.declared.halt.Halt.{Halt}
use Rattle.nl_bytes.specs.declared.halt.Halt.TheVariants.{TooLong, Failed}
use Rattle.nl_bytes.specs.declared.bytes.TheConstants.{LIMIT}
use Rattle.vlog_tokens.specs.declared.scan.Scanned.{Scanned}
use Rattle.vlog_tokens.specs.declared.phase.Phase.TheVariants.{Word, Escape, Escaped, Whole, Point, Fraction, Mark, Sign, Exponent, Prefix, Signed, Letter, Digits, Unknown, Grave, Directive}
use Rattle.vlog_tokens.specs.declared.phase.Step.{Step}
use Rattle.vlog_tokens.specs.declared.phase.Step.TheVariants.{Keep, Pass, Ends, Bad}
use Rattle.nl_bytes.specs.Flaws.{Piece, Flaw, flaw}
use Rattle.vlog_tokens.specs.Phases.{next_step, is_complete, most_of}

-- the bytes of a token that are kept, and what they are
pub record Lexeme : Type 0 where
  pub phase : Phase
  pub text : List ℕ

-- one where there is a byte
abbrev pub one_if : Option ℕ → ℕ
one_if None = 0
one_if (Some b) = 1

-- a token of n bytes, whose end the next byte shows, or the end of the input
abbrev pub ended : Phase → List ℕ → ℕ → Option ℕ → Result (Piece Lexeme) Flaw
ended phase text n next = Ok (record { value = record { phase = phase; text = text }; count = n; seen = n + one_if next })

-- what the next byte makes of a token that keeps `text` of its n bytes; `after` tells what comes of it behind the byte
abbrev pub stepped : Step → Phase → List ℕ → ℕ → ℕ → (Phase → List ℕ → Result (Piece Lexeme) Flaw) → Result (Piece Lexeme) Flaw
stepped (Keep next) phase text n b after = if nat_le (most_of phase) (length text) then flaw TokenTooLong 0 (n + 1) else after next (text ++ b ∷ [])
stepped (Pass next) phase text n b after = after next text
stepped Ends phase text n b after = ended phase text n (Some b)
stepped Bad phase text n b after = flaw BadByte n (n + 1)

-- what the bytes from here on make of a token that keeps `text` of its n bytes so far
unfoldable pub scan_at : Phase → List ℕ → ℕ → List ℕ → Result (Piece Lexeme) Flaw
scan_at phase text n [] = if is_complete phase then ended phase text n None else flaw EndOfInput n n
scan_at phase text n (b ∷ bs) = stepped (next_step phase b) phase text n b (λ next kept. scan_at next kept (n + 1) bs)

-- what is kept of the byte that begins a token: not the `\` of an escaped name
unfoldable pub kept : Phase → ℕ → List ℕ
kept Word b = b ∷ []
kept Escape b = []
kept Escaped b = b ∷ []
kept Whole b = b ∷ []
kept Point b = b ∷ []
kept Fraction b = b ∷ []
kept Mark b = b ∷ []
kept Sign b = b ∷ []
kept Exponent b = b ∷ []
kept Prefix b = b ∷ []
kept Signed b = b ∷ []
kept (Letter base) b = b ∷ []
kept (Digits base) b = b ∷ []
kept Unknown b = b ∷ []
kept Grave b = b ∷ []
kept Directive b = b ∷ []

-- a token whose first byte b makes it begin in a phase
abbrev pub begun : Phase → ℕ → ℕ → List ℕ → Result (Piece Lexeme) Flaw
begun phase b n bs = scan_at phase (kept phase b) (n + 1) (drop 1 bs)

-- ---- what the parts of the reader answer

-- bytes were used that keep a token in its phase
pub record Stays (phase : Phase) (old new : Window) (left left' : Option (List ℕ)) (before after : List ℕ) (result : Result (Option ℕ) Halt) : Type 0 where
  pub used : List ℕ
  pub uses : Uses old new left left' used
  pub same : (n : ℕ) (rest : List ℕ) → scan_at phase before n (used ++ rest) ≡ scan_at phase after (n + length used) rest
  pub ahead : IfOk result (IsAhead new left')
  pub within : OnOk result (new.place.offset ≤ LIMIT)
  pub too_long : IsErrOf result TooLong → LIMIT < new.place.offset
  pub used_up : IsErrOf result Failed → new.held ≡ []

-- what the bytes mean behind a byte: those of a token that goes on, or of one that has ended
abbrev pub after_byte : Option Phase → Phase → List ℕ → ℕ → List ℕ → Result (Piece Lexeme) Flaw
after_byte (Some next) phase text n rest = scan_at next text n rest
after_byte None phase text n rest = ended phase text n (first rest)

-- the token has ended
abbrev pub scanned : Scanned → ℕ → List ℕ → Result (Piece Lexeme) Flaw
scanned x n rest = ended x.phase x.text.items n (first rest)

-- a stop is just past the byte ahead, or the end
abbrev pub StopsAt : Window → Option (List ℕ) → ℕ → Type 0
StopsAt w left stop = (next : Option ℕ) × IsAhead w left next × (stop ≡ w.place.offset + one_if next)
