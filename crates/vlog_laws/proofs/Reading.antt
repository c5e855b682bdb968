-- A production that is live, and clear where what may follow it does, is read exactly.
use Rattle.grammar.specs.Clear.{IsClear}
use Rattle.grammar.specs.Exact.{IsExact}
use Rattle.grammar.specs.Whole.{Terminal, end}
use Rattle.grammar.proofs.Parts as grammar
use Rattle.nl_base.specs.Place.{place_at_start}
use Rattle.nl_base.specs.declared.place.Place.{Place}
use Rattle.vlog_tokens.specs.declared.token.VFound.{VFound}
use Rattle.vlog_exprs.specs.Language.{Vlog}
use Rattle.vlog_exprs.proofs.Live.{Lives}

pub exact : {A : Type 0} (p : Vlog A) (Follows : Terminal VFound Place → Type 0) → Lives p → IsClear tt p (λ _ x. Follows x) → Follows (end place_at_start) → IsExact tt p Follows
exact p Follows live clear at_end = grammar.exact tt p Follows live clear (end place_at_start) at_end
