-- What reads as a text reads as it with and without the limit of an input.
use Rattle.std.proofs.Common.{sym, subst, ℕ, ◌≤◌, List, length, arith}
use Rattle.grammar.specs.Whole.{IsText}
use Rattle.nl_base.specs.Place.{place_at_start}
use Rattle.nl_bytes.specs.declared.bytes.TheConstants.{LIMIT}
use Rattle.readers.specs.Parts.{PartOf}
use Rattle.nl_bytes.specs.Tokens.{Ahead}
use Rattle.vlog_tokens.specs.declared.token.VFound.{VFound}
use Rattle.vlog_tokens.specs.Language.{all_tokens, vtokens}
use Rattle.vlog_bounds.proofs.TokenCount.{read_within}
use Rattle.vlog_lexing.proofs.Limits.{tokens_whole}

module _ {K A : Type 0} (k : K) (part : PartOf K VFound A) (text : List ℕ) (v : A) where
  pub text_within : IsText k part (vtokens text) v → IsText k part (all_tokens text) v × (length text ≤ LIMIT)
  text_within h =
      let le : length text ≤ LIMIT = let w = read_within place_at_start text h.1 in omega (arith, w) in
      (subst (λ (s : Ahead VFound). IsText k part s v) (tokens_whole text le) h, le)

  pub text_looked : IsText k part (all_tokens text) v → length text ≤ LIMIT → IsText k part (vtokens text) v
  text_looked h le = subst (λ (s : Ahead VFound). IsText k part s v) (sym (tokens_whole text le)) h
