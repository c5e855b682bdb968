-- A production that is live and closed under all aliases is read exactly.
use Rattle.grammar.specs.Whole.{end}
use Rattle.grammar.proofs.Parts as grammar
use Rattle.nl_base.specs.Place.{place_at_start}
use Rattle.edif_keywords.specs.Language.{Edif}
use Rattle.edif_keywords.proofs.Live.{Lives, Closes}
use Rattle.edif_laws.specs.Exact.{Any, IsReadExactly}

pub exact : {A : Type 0} (p : Edif A) → Lives p → Closes p → IsReadExactly p
exact p lives closes = λ aliases. grammar.exact aliases p Any (lives aliases) (closes aliases).closed (end place_at_start) tt
