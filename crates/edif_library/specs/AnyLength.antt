-- What a text spells, and its first fault, whatever its length (EDIF 2 0 0, edif).
use Rattle.std.specs.Prelude.{ℕ, List, []}
use Rattle.grammar.specs.Whole.{whole, IsText, IsFirstFault}
use Rattle.nl_base.specs.declared.fault.TextFault.{TextFault}
use Rattle.readers.specs.Readers.{fault_at}
use Rattle.edif_tokens.specs.Language.{all_tokens}
use Rattle.edif_keywords.specs.Language.{edif}
use Rattle.edif_keywords.specs.Reasons.{trailing}
use Rattle.edif_values.specs.declared.file.EdifFile.{EdifFile}
use Rattle.edif_library.specs.Grammar.{file}

-- The bytes are a text of the file: all their tokens, up to the end of the bytes, spell it. No limit is set to the bytes.
abbrev pub EdifSpells : List ℕ → EdifFile → Type 0
EdifSpells bs v = IsText [] (whole trailing (file [])) (all_tokens bs) v

-- The bytes have this first fault: at the first token that no file has there, at bytes that are no token, or at the end of the bytes.
abbrev pub EdifFails : List ℕ → TextFault → Type 0
EdifFails bs f = IsFirstFault (fault_at edif) [] (whole trailing (file [])) (all_tokens bs) f
