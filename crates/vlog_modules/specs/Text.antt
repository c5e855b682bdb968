-- What a text reads as, and its first fault (IEEE 1364-2005, A.1.2).
use Rattle.std.specs.Prelude.{List, ℕ}
use Rattle.grammar.specs.Whole.{whole, IsFirstFault, IsCut}
use Rattle.nl_base.specs.declared.fault.TextFault.{TextFault}
use Rattle.readers.specs.Readers.{fault_at}
use Rattle.readers.specs.Texts.{tokens_of, SpellsText}
use Rattle.vlog_tokens.specs.Language.{vlog}
use Rattle.vlog_exprs.specs.Reasons.{trailing}
use Rattle.vlog_values.specs.declared.module.VlogFile.{VlogFile}
use Rattle.vlog_modules.specs.Grammar.{file}

-- The bytes are a text of the file: their tokens, up to the end of the input, spell it.
abbrev pub VlogReads : List ℕ → VlogFile → Type 0
VlogReads bs v = SpellsText vlog trailing tt file bs v

-- The bytes have this first fault: at the first token that no file has there, at bytes that are no token, or at the end of the input.
abbrev pub VlogFault : List ℕ → TextFault → Type 0
VlogFault bs f = IsFirstFault (fault_at vlog) tt (whole trailing file) (tokens_of vlog bs) f

-- The bytes go on past the input limit, and no first fault has its stop within it.
abbrev pub VlogCut : List ℕ → Type 0
VlogCut bs = IsCut tt (whole trailing file) (tokens_of vlog bs)
