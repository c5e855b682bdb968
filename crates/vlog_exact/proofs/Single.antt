-- Parts of one token are live.
use Rattle.std.proofs.Common.{◌≡◌, refl, ℕ, true, List, Some}
use Rattle.std.proofs.lemmas.Slice.Eq.{bytes_eq-Decides}
use Rattle.nl_base.specs.Case.{same_bytes}
use Rattle.readers.proofs.Shapes.{live_one}
use Rattle.vlog_tokens.specs.declared.token.VToken.TheVariants as token
use Rattle.vlog_exprs.specs.Grammar.{keyword, choice}
use Rattle.vlog_exprs.specs.Reasons as say
use Rattle.vlog_exprs.specs.Reasons.{meant_by}
use Rattle.vlog_exprs.proofs.Live.{Lives, found}

pub live_keyword : (due : List ℕ) → Lives (keyword due)
live_keyword due = live_one (λ _ x. say.keyword_of due x.token) tt (found (token.Keyword due)) tt (let e : same_bytes due due ≡ true = (bytes_eq-Decides due due).1 refl in rw e refl)

pub live_choice : {A : Type 0} (words : List (List ℕ × A)) (word : List ℕ) (value : A) → meant_by words word ≡ Some value → Lives (choice words)
live_choice words word value h = live_one (λ _ x. say.choice_of words x.token) tt (found (token.Keyword word)) value (rw h refl)
