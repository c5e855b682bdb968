-- What begins a text of a closed part can be gone on with by tokens of which a fact holds, where the reading says so.
use Rattle.std.proofs.Common.{◌≡◌, List, [], ◌∷◌, ◌++◌, Ok, Err, refl, sym, ap, subst, ◌∙◌, append_assoc, append-nil}
use Rattle.grammar.specs.Part.{Part}
use Rattle.grammar.specs.Texts.{Spells, Begins}
use Rattle.grammar.specs.Reading.{refused, ended, Found, read}
use Rattle.grammar.specs.Clear.{IsLive, IsClosed, IsClear}
use Rattle.grammar.proofs.Closed.{no_text_goes_on}
use Rattle.grammar.proofs.Exact.{fault_from_read, fault_or_begins}
use Rattle.grammar.proofs.Follow.{clear_fewer}
use Rattle.grammar_laws.specs.GoesOn.{BeginsBy}
use Rattle.grammar_laws.proofs.GoingOn.{SaysBy}

module _ {K X R A : Type 0} (P : X → Type 0) (κ : K) (p : Part K X R A) (live : IsLive κ p) (last : X) (closed : IsClosed κ p) where
  clear_last : IsClear κ p (λ _ x. x ≡ last)
  clear_last = clear_fewer κ p (λ _ x. x ≡ last) (λ _ _. Unit {0}) (λ _ _ _. tt) closed

  read_whole : (ts a rest : List X) (v : A) → ts ≡ a ++ rest → Spells κ p a v → Begins κ p ts → BeginsBy P κ p ts
  read_whole ts a [] v parts spells h = ([], v, tt, subst (λ (z : List X). Spells κ p z v) (sym (append-nil ts ∙ parts ∙ append-nil a)) spells)
  read_whole ts a (y ∷ rest) v parts spells h =
      let same : ts ++ h.0 ≡ (a ++ y ∷ []) ++ (rest ++ h.0) = ap (λ (z : List X). z ++ h.0) parts ∙ append_assoc a (y ∷ rest) h.0 ∙ sym (append_assoc a (y ∷ []) (rest ++ h.0)) in
      absurd (no_text_goes_on κ p closed a y v spells (rest ++ h.0, h.1, subst (λ (z : List X). Spells κ p z h.1) same h.2))

  by_reading : (ts : List X) (r : Found X R A) → read κ p ts ≡ r → SaysBy P κ p ts r → Begins κ p ts → BeginsBy P κ p ts
  by_reading ts (Ok x) is says h = read_whole ts says.0 x.1 x.0 says.1 says.2 h
  by_reading ts (Err (refused x r)) is says h = absurd (fault_or_begins κ p live last clear_last ts x r (fault_from_read κ p live last clear_last ts x r is) h)
  by_reading ts (Err ended) is says h = says

  -- what can be gone on with by any tokens can be gone on with by these
  pub begins_by : (ts : List X) → SaysBy P κ p ts (read κ p ts) → Begins κ p ts → BeginsBy P κ p ts
  begins_by ts says h = by_reading ts (read κ p ts) refl says h
