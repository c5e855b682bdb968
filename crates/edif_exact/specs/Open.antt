-- Where the reading of a part of an EDIF text needs one more token: there the part has a fault where no token comes.
use Rattle.std.specs.Prelude.{◌≡◌, List, ◌∷◌, ◌++◌, Err}
use Rattle.grammar.specs.Part.{Part}
use Rattle.grammar.specs.Texts.{Spells, Begins}
use Rattle.grammar.specs.Reading.{ended, read}
use Rattle.edif_keywords.specs.Aliases.{Alias}
use Rattle.edif_keywords.specs.Language.{Edif}
use Rattle.edif_laws.specs.Exact.{IsReadExactly}

-- The reading needs one more token where the tokens are the front of a text and no text stands at their front.
pub record NeedsMore {K X R A : Type 0} (k : K) (p : Part K X R A) : Type 0 where
  -- tokens of which one more is needed are the front of a text
  pub begins : (tokens : List X) → read k p tokens ≡ Err ended → Begins k p tokens
  -- and have no text before their last token
  pub no_text : (text rest : List X) (next : X) (v : A) → read k p (text ++ next ∷ rest) ≡ Err ended → ¬ Spells k p text v
  -- of tokens that are the front of a text, and at whose front no text stands, one more is needed
  pub is_open : (tokens : List X) → Begins k p tokens → ((text rest : List X) (v : A) → tokens ≡ text ++ rest → ¬ Spells k p text v) → read k p tokens ≡ Err ended

-- the reading needs more so, under all aliases
abbrev pub NeedsMoreSo : {A : Type 0} → Edif A → Type 0
NeedsMoreSo p = (aliases : List Alias) → NeedsMore aliases p

-- the reading is what the tokens spell, and needs more so
abbrev pub IsReadWholly : {A : Type 0} → Edif A → Type 0
IsReadWholly p = IsReadExactly p × NeedsMoreSo p
