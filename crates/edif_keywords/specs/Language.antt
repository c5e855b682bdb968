-- The parts of EDIF texts, over the tokens of EDIF.
use Rattle.std.specs.Prelude.{List}
use Rattle.edif_tokens.specs.declared.token.Found.{Found}
pub use Rattle.edif_tokens.specs.Language.{edif}
use Rattle.readers.specs.Parts.{PartOf}
use Rattle.edif_keywords.specs.Aliases.{Alias}

-- a part of a text whose tokens spell values of a type, under the aliases of the text
abbrev pub Edif : Type 0 → Type 1
Edif A = PartOf (List Alias) Found A
