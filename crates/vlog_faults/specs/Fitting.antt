-- Which reasons the table of first faults gives a token of a Verilog text, by the token alone (IEEE 1364-2005, 3 and A).
use Rattle.std.specs.Prelude.{◌≡◌, ◌⊎◌, ℕ, false, List, [], ◌∷◌, ◌++◌}
use Rattle.grammar.specs.Whole.{Terminal, proper, end, Bad}
use Rattle.nl_base.specs.declared.place.Place.{Place}
use Rattle.nl_base.specs.declared.fault.Reason.{Reason}
use Rattle.nl_base.specs.declared.fault.Reason.TheVariants as reasons
use Rattle.nl_base.specs.declared.fault.TextFault.{TextFault}
use Rattle.readers.specs.Readers.{fault_at}
use Rattle.vlog_tokens.specs.declared.token.VFound.{VFound}
use Rattle.vlog_tokens.specs.declared.token.VToken.{VToken}
use Rattle.vlog_tokens.specs.declared.token.VToken.TheVariants as t
use Rattle.vlog_tokens.specs.Language.{vlog, all_tokens}
use Rattle.vlog_exprs.specs.Reasons.{is_bound}

-- the reason fits the token: a keyword, a symbol and a directive are not in the profile, by their spelling; a number may be past the
-- range of a bound, based digits may stand behind a number that is no size, a `{` (123) may be too deep; all else is unexpected
abbrev pub FitsToken : VToken → Reason → Type 0
FitsToken (t.Name n) r = r ≡ reasons.Unexpected
FitsToken (t.Keyword w) r = r ≡ reasons.NotInProfile w
FitsToken (t.Number n) r = (r ≡ reasons.Unexpected) ⊎ ((r ≡ reasons.NumberRange) × (is_bound n ≡ false))
FitsToken (t.Real x) r = r ≡ reasons.Unexpected
FitsToken (t.Based d) r = (r ≡ reasons.Unexpected) ⊎ (r ≡ reasons.NumberRange)
FitsToken (t.Str s) r = r ≡ reasons.Unexpected
FitsToken (t.Punct b) r = (r ≡ reasons.Unexpected) ⊎ ((r ≡ reasons.TooDeep) × (b ≡ 123))
FitsToken t.AttrStart r = r ≡ reasons.Unexpected
FitsToken t.AttrStop r = r ≡ reasons.Unexpected
FitsToken (t.Symbol b) r = r ≡ reasons.NotInProfile (b ∷ [])
FitsToken (t.Directive w) r = r ≡ reasons.NotInProfile w

-- the reason fits the token, or is that of the end of the input
abbrev pub Fits : Terminal VFound Place → Reason → Type 0
Fits (proper x) r = FitsToken x.token r
Fits (end p) r = r ≡ reasons.EndOfInput

-- a first fault is at a token or at the end of the bytes, for a reason that fits it, or at bytes that are no token, for theirs
pub data HasReason (bytes : List ℕ) (fault : TextFault) : Type 0 where
  of_token : (before after : List (Terminal VFound Place)) (x : Terminal VFound Place) (reason : Reason) → (all_tokens bytes).tokens ≡ before ++ x ∷ after → fault ≡ fault_at vlog x reason → Fits x reason → HasReason bytes fault
  of_no_token : (all_tokens bytes).finish ≡ Bad fault → HasReason bytes fault
