-- What is answered of a text that is made in memory of what is read.
use Rattle.std.specs.Prelude.{◌≡◌, ℕ, List, Result, Ok, Err, Vec}
use Rattle.std.proofs.Common.{Global}
use Rattle.nl_base.specs.declared.fault.ReadError.{ReadError}

-- of a value that was read its text is answered, and of an error the same error
abbrev pub IsTextOfRead : {V : Type 0} → (V → List ℕ) → Result V ReadError → Result (Vec ℕ Global) ReadError → Type 0
IsTextOfRead text_of (Ok v) (Ok text) = text.items ≡ text_of v
IsTextOfRead text_of (Err e) (Err f) = e ≡ f
IsTextOfRead text_of (Ok v) (Err f) = ⊥
IsTextOfRead text_of (Err e) (Ok text) = ⊥
