-- What a part of an EDIF text reads as, by what its tokens spell.
use Rattle.std.specs.Prelude.{⊤, List}
use Rattle.grammar.specs.Exact.{IsExact}
use Rattle.grammar.specs.Whole.{Terminal}
use Rattle.nl_base.specs.declared.place.Place.{Place}
use Rattle.edif_tokens.specs.declared.token.Found.{Found}
use Rattle.edif_keywords.specs.Aliases.{Alias}
use Rattle.edif_keywords.specs.Language.{Edif}

-- any token, or the end
abbrev pub Any : Terminal Found Place → Type 0
Any next = ⊤

-- The reading of a production, under all aliases and whatever stands behind it, is what its tokens spell.
abbrev pub IsReadExactly : {A : Type 0} → Edif A → Type 0
IsReadExactly p = (aliases : List Alias) → IsExact aliases p Any
