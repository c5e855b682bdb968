-- What a text reads as, and its first fault (EDIF 2 0 0, edif).
use Rattle.std.specs.Prelude.{List, [], ℕ}
use Rattle.grammar.specs.Whole.{whole, IsFirstFault, IsCut}
use Rattle.nl_base.specs.declared.fault.TextFault.{TextFault}
use Rattle.readers.specs.Readers.{fault_at}
use Rattle.readers.specs.Texts.{tokens_of, SpellsText}
use Rattle.edif_keywords.specs.Language.{edif}
use Rattle.edif_keywords.specs.Reasons.{trailing}
use Rattle.edif_values.specs.declared.file.EdifFile.{EdifFile}
use Rattle.edif_library.specs.Grammar.{file}

-- The bytes are a text of the file: their tokens, up to the end of the input, spell it.
abbrev pub EdifReads : List ℕ → EdifFile → Type 0
EdifReads bs v = SpellsText edif trailing [] (file []) bs v

-- The bytes have this first fault: at the first token that no file has there, at bytes that are no token, or at the end of the input.
abbrev pub EdifFault : List ℕ → TextFault → Type 0
EdifFault bs f = IsFirstFault (fault_at edif) [] (whole trailing (file [])) (tokens_of edif bs) f

-- The bytes go on past the input limit, and no first fault has its stop within it.
abbrev pub EdifCut : List ℕ → Type 0
EdifCut bs = IsCut [] (whole trailing (file [])) (tokens_of edif bs)
