-- What is answered of a file that is read and of which the text is made.
use Rattle.std.specs.Prelude.{◌≡◌, ℕ, Result, Ok, Err, Vec}
use Rattle.std.proofs.Common.{Global}
use Rattle.nl_base.specs.declared.fault.ReadError.{ReadError}
use Rattle.nl_io.specs.Sources.{Supply}
use Rattle.nl_memory.specs.Made.{IsTextOfRead}
use Rattle.readers.specs.Readers.{Reader, ReadsWhole, same}
use Rattle.readers.specs.Texts.{ReadsText}
use Rattle.vlog_values.specs.declared.module.VlogFile.{VlogFile}
use Rattle.vlog_tokens.specs.declared.token.VFound.{VFound}
use Rattle.vlog_tokens.specs.Language.{vlog}
use Rattle.vlog_exprs.specs.Language.{NoContext}
use Rattle.vlog_exprs.specs.Reasons.{trailing}
use Rattle.vlog_modules.specs.Grammar.{file}
use Rattle.vlog_writer.specs.Forms.{vlog_text}
use Rattle.vlog_format.specs.declared.text.FileText.{FileText}
use Rattle.vlog_format.specs.Texts.{IsTextOf}

-- The source is read to its end as a file, as `read_vlog` reads it, and the normal text of the file is answered.
abbrev pub Formats : Result (Vec ℕ Global) ReadError → Supply → Supply → Type 0
Formats result i j = (read : Result VlogFile ReadError) × ReadsText vlog trailing tt same file read i j × IsTextOfRead vlog_text read result

-- the same of the text of the modules that were read
abbrev pub IsTextOfPieces : Result VlogFile ReadError → Result FileText ReadError → Type 0
IsTextOfPieces (Ok v) (Ok text) = IsTextOf text v.modules
IsTextOfPieces (Err e) (Err f) = e ≡ f
IsTextOfPieces (Ok v) (Err f) = ⊥
IsTextOfPieces (Err e) (Ok text) = ⊥

-- The directives and modules of a file are read, and the text of the modules is made.
abbrev pub FormatsPieces : Result FileText ReadError → Reader NoContext VFound → Reader NoContext VFound → Supply → Supply → Type 0
FormatsPieces result old new i j = (read : Result VlogFile ReadError) × ReadsWhole vlog same file read old new i j × IsTextOfPieces read result
