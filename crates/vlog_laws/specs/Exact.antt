-- What may stand behind a part of a Verilog text that could go on.
use Rattle.std.specs.Prelude.{◌≡◌, ⊤, ℤ}
use Rattle.grammar.specs.Part.{leaves}
use Rattle.grammar.specs.Whole.{Terminal}
use Rattle.nl_base.specs.declared.place.Place.{Place}
use Rattle.readers.specs.Parts.{at_token}
use Rattle.vlog_tokens.specs.declared.token.VFound.{VFound}
use Rattle.vlog_exprs.specs.Reasons.{at_mark, at_digits, at_group}

-- any token, or the end
abbrev pub Any : Terminal VFound Place → Type 0
Any next = ⊤

-- what goes on with no expression: neither `[` nor the digits of a literal (A.8.4)
pub record EndsExpression (next : Terminal VFound Place) : Type 0 where
  pub no_bracket : at_token (λ x. at_mark 91 x.token) next ≡ leaves
  pub no_digits : (n : ℤ) → at_token (λ x. at_digits n x.token) next ≡ leaves

-- what goes on with no constant: no digits of a literal (A.8.7)
abbrev pub EndsConstant : Terminal VFound Place → Type 0
EndsConstant next = (n : ℤ) → at_token (λ x. at_digits n x.token) next ≡ leaves

-- what goes on with no attributes: no `(*` (A.9.1)
abbrev pub EndsAttributes : Terminal VFound Place → Type 0
EndsAttributes next = at_token (λ x. at_group x.token) next ≡ leaves
