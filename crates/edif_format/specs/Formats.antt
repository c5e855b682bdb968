-- What is answered of a file that is read and of which the text is made.
use Rattle.std.specs.Prelude.{ℕ, [], Result, Vec}
use Rattle.std.proofs.Common.{Global}
use Rattle.nl_base.specs.declared.fault.ReadError.{ReadError}
use Rattle.nl_io.specs.Sources.{Supply}
use Rattle.nl_memory.specs.Made.{IsTextOfRead}
use Rattle.readers.specs.Readers.{same}
use Rattle.readers.specs.Texts.{ReadsText}
use Rattle.edif_values.specs.declared.file.EdifFile.{EdifFile}
use Rattle.edif_keywords.specs.Language.{edif}
use Rattle.edif_keywords.specs.Reasons.{trailing}
use Rattle.edif_library.specs.Grammar.{file}
use Rattle.edif_writer.specs.Forms.{edif_text}

-- The source is read to its end as a file, as `read_edif` reads it, and the normal text of the file is answered.
abbrev pub FormatsText : Result (Vec ℕ Global) ReadError → Supply → Supply → Type 0
FormatsText result i j = (read : Result EdifFile ReadError) × ReadsText edif trailing [] same (file []) read i j × IsTextOfRead edif_text read result
