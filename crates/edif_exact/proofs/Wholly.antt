-- A production that is live and closed is read wholly.
use Rattle.std.proofs.Common.{◌≡◌, List, ◌∷◌, ◌++◌, Err}
use Rattle.grammar.specs.Clear.{IsClear}
use Rattle.grammar.specs.Reading.{ended, read}
use Rattle.grammar.specs.Texts.{Spells}
use Rattle.grammar.specs.Whole.{Terminal, end}
use Rattle.grammar.proofs.Exact.{ok_or_err}
use Rattle.grammar.proofs.Follow.{clear_fewer}
use Rattle.nl_base.specs.Place.{place_at_start}
use Rattle.nl_base.specs.declared.place.Place.{Place}
use Rattle.edif_tokens.specs.declared.token.Found.{Found}
use Rattle.edif_keywords.specs.Aliases.{Alias}
use Rattle.edif_keywords.specs.Language.{Edif}
use Rattle.edif_keywords.proofs.Live.{Lives, Closes}
use Rattle.edif_laws.proofs.Reading.{exact}
use Rattle.grammar_laws.proofs.Opening.{is_open, open_begins}
use Rattle.edif_exact.specs.Open.{NeedsMoreSo, IsReadWholly}

module _ {A : Type 0} (p : Edif A) (lives : Lives p) (closes : Closes p) (aliases : List Alias) where
  clear : IsClear aliases p (λ _ x. x ≡ end place_at_start)
  clear = clear_fewer aliases p (λ _ x. x ≡ end place_at_start) (λ _ _. Unit {0}) (λ _ _ _. tt) (closes aliases).closed

  not_text : (text rest : List (Terminal Found Place)) (next : Terminal Found Place) (v : A) → read aliases p (text ++ next ∷ rest) ≡ Err ended → Spells aliases p text v → ⊥
  not_text text rest next v e h = ok_or_err (read aliases p (text ++ next ∷ rest)) (v, next ∷ rest) ended ((exact p lives closes aliases).is_read text rest next v h tt) e

pub needs_more : {A : Type 0} (p : Edif A) → Lives p → Closes p → NeedsMoreSo p
needs_more p lives closes = λ aliases. record {
  begins = open_begins aliases p (lives aliases) (end place_at_start) (clear p lives closes aliases);
  no_text = λ text rest next v e. not_text p lives closes aliases text rest next v e;
  is_open = is_open aliases p (lives aliases) (end place_at_start) (clear p lives closes aliases);
}

pub wholly : {A : Type 0} (p : Edif A) → Lives p → Closes p → IsReadWholly p
wholly p lives closes = (exact p lives closes, needs_more p lives closes)
