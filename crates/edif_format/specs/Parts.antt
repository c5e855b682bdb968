-- Parts of a text that are read, and of which the lines are put.
use Rattle.std.specs.Prelude.{◌≡◌, ℕ, List, Result, Ok, Err}
use Rattle.nl_base.specs.declared.fault.ReadError.{ReadError}
use Rattle.nl_io.specs.Sources.{Supply}
use Rattle.nl_output.specs.Writing.{State, Puts}
use Rattle.readers.specs.Readers.{Reader, Reads, ReadsWhole, same}
use Rattle.edif_tokens.specs.declared.token.Found.{Found}
use Rattle.edif_keywords.specs.Aliases.{Alias}
use Rattle.edif_keywords.specs.Language.{edif, Edif}

-- of a value that was read, of which something holds, the text is put, and of an error the same error is answered
abbrev pub IsPut : {V : Type 0} → (V → Type 0) → (V → List ℕ → List ℕ) → Result V ReadError → Result (Unit {0}) ReadError → State → State → Type 0
IsPut Such text (Ok v) (Ok done) before after = Such v × Puts (text v) before after
IsPut Such text (Err e) (Err f) before after = e ≡ f
IsPut Such text (Ok v) (Err f) before after = ⊥
IsPut Such text (Err e) (Ok done) before after = ⊥

-- A part is read and its text is put, and something holds of its value.
abbrev pub FormatsSuch : {V : Type 0} → (V → Type 0) → Edif V → (V → List ℕ → List ℕ) → Result (Unit {0}) ReadError → Reader (List Alias) Found → Reader (List Alias) Found → Supply → Supply → State → State → Type 0
FormatsSuch {V} Such part text result old new i j before after = (read : Result V ReadError) × Reads edif same part read old new i j × IsPut Such text read result before after

-- nothing is said of a value
abbrev pub Any : {V : Type 0} → V → Type 0
Any v = Unit {0}

-- A part is read and its text is put.
abbrev pub Formats : {V : Type 0} → Edif V → (V → List ℕ → List ℕ) → Result (Unit {0}) ReadError → Reader (List Alias) Found → Reader (List Alias) Found → Supply → Supply → State → State → Type 0
Formats part text result old new i j before after = FormatsSuch Any part text result old new i j before after

-- The same of a part after which the aliases may be others.
abbrev pub FormatsWhole : {V : Type 0} → Edif V → (V → List ℕ → List ℕ) → Result (Unit {0}) ReadError → Reader (List Alias) Found → Reader (List Alias) Found → Supply → Supply → State → State → Type 0
FormatsWhole {V} part text result old new i j before after = (read : Result V ReadError) × ReadsWhole edif same part read old new i j × IsPut Any text read result before after
