-- What a text spells, and its first fault, whatever its length (IEEE 1364-2005, A.1.2).
use Rattle.std.specs.Prelude.{ℕ, List}
use Rattle.grammar.specs.Whole.{whole, IsText, IsFirstFault}
use Rattle.nl_base.specs.declared.fault.TextFault.{TextFault}
use Rattle.readers.specs.Readers.{fault_at}
use Rattle.vlog_tokens.specs.Language.{vlog, all_tokens}
use Rattle.vlog_exprs.specs.Reasons.{trailing}
use Rattle.vlog_values.specs.declared.module.VlogFile.{VlogFile}
use Rattle.vlog_modules.specs.Grammar.{file}

-- The bytes are a text of the file: all their tokens, up to the end of the bytes, spell it. No limit is set to the bytes.
abbrev pub VlogSpells : List ℕ → VlogFile → Type 0
VlogSpells bs v = IsText tt (whole trailing file) (all_tokens bs) v

-- The bytes have this first fault: at the first token that no file has there, at bytes that are no token, or at the end of the bytes.
abbrev pub VlogFails : List ℕ → TextFault → Type 0
VlogFails bs f = IsFirstFault (fault_at vlog) tt (whole trailing file) (all_tokens bs) f
