-- Which tokens some bytes have, wherever they begin: places and stops are forgotten.
use Rattle.std.specs.Prelude.{◌≡◌, ℕ, List, [], ◌∷◌, ◌++◌, map}
use Rattle.grammar.specs.Whole.{Done, proper, end}
use Rattle.nl_base.specs.declared.place.Place.{Place}
use Rattle.nl_bytes.specs.Tokens.{Ahead}
use Rattle.edif_tokens.specs.declared.token.Found.{Found}
use Rattle.edif_values.specs.declared.token.Token.{Token}
use Rattle.edif_tokens.specs.Language.{tokens_from}

-- these are the tokens of a stream, and the end of the input stands behind them
pub record Shows (s : Ahead Found) (ts : List Token) : Type 0 where
  pub found : List Found
  pub last : Place
  pub tokens : s.tokens ≡ map proper found ++ end last ∷ []
  pub same : map (λ f. f.token) found ≡ ts
  pub finish : s.finish ≡ Done

-- the tokens of the bytes are these
pub record Lexes (bs : List ℕ) (ts : List Token) : Type 0 where
  pub at : (p : Place) → Shows (tokens_from 0 p bs) ts
