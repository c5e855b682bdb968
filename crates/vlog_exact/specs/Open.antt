-- Where the reading of a part of a Verilog text needs one more token: there the part has a fault where no token comes.
use Rattle.std.specs.Prelude.{◌≡◌, List, [], ◌∷◌, ◌++◌, Err}
use Rattle.grammar.specs.Exact.{IsExact}
use Rattle.grammar.specs.Faults.{GoesOnInto}
use Rattle.grammar.specs.Part.{Part}
use Rattle.grammar.specs.Reading.{ended, read}
use Rattle.grammar.specs.Texts.{Spells, Begins}
use Rattle.grammar.specs.Whole.{Terminal}
use Rattle.nl_base.specs.declared.place.Place.{Place}
use Rattle.vlog_tokens.specs.declared.token.VFound.{VFound}
use Rattle.vlog_exprs.specs.Language.{Vlog}

-- The reading needs one more token where the tokens are the front of a text, and no text stands at their front that the next one ends.
pub record NeedsMore {K X R A : Type 0} (k : K) (p : Part K X R A) (Follows : X → Type 0) : Type 0 where
  -- tokens of which one more is needed are the front of a text
  pub begins : (tokens : List X) → read k p tokens ≡ Err ended → Begins k p tokens
  -- and have no text before a token that does not go on with it
  pub no_text : (text rest : List X) (next : X) (v : A) → Follows next → read k p (text ++ next ∷ rest) ≡ Err ended → ¬ Spells k p text v
  -- of tokens that are the front of a text, and at whose front no text stands, one more is needed
  pub is_open : (tokens : List X) → Begins k p tokens → ((text rest : List X) (v : A) → tokens ≡ text ++ rest → ¬ Spells k p text v) → read k p tokens ≡ Err ended
  -- and so it is of a text that some token goes on with
  pub goes_on : (text : List X) (v : A) → Spells k p text v → GoesOnInto k p text [] → read k p text ≡ Err ended

-- the reading is what the tokens spell, and needs more so
abbrev pub IsReadWholly : {A : Type 0} → Vlog A → (Terminal VFound Place → Type 0) → Type 0
IsReadWholly p Follows = IsExact tt p Follows × NeedsMore tt p Follows
