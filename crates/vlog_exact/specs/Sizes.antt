-- Where the reading of a part looks at a token that tells nothing (IEEE 1364-2005, A.8.7).
use Rattle.std.specs.Prelude.{◌≡◌, ℤ, List, [], ◌∷◌, Err}
use Rattle.grammar.specs.Faults.{GoesOnInto}
use Rattle.grammar.specs.Reading.{ended, read}
use Rattle.grammar.specs.Texts.{Spells}
use Rattle.grammar.specs.Whole.{proper}
use Rattle.vlog_tokens.specs.declared.token.VFound.{VFound}
use Rattle.vlog_tokens.specs.declared.token.VToken.TheVariants as tokens
use Rattle.vlog_exprs.specs.Language.{Vlog}

-- The number is a text of the part that no token goes on with, and the reading needs one more token.
pub record LooksOn {A : Type 0} (p : Vlog A) (number : ℤ) : Type 0 where
  pub is_text : (x : VFound) → x.token ≡ tokens.Number number → (v : A) × Spells tt p (proper x ∷ []) v
  pub is_whole : (x : VFound) → x.token ≡ tokens.Number number → GoesOnInto tt p (proper x ∷ []) [] → ⊥
  pub needs_more : (x : VFound) → x.token ≡ tokens.Number number → read tt p (proper x ∷ []) ≡ Err ended
