-- What a sink took of the text of a file.
use Rattle.std.specs.Prelude.{ℕ, List, Option, Result, IfSome}
use Rattle.nl_io.specs.Sinks.{Receipt}
use Rattle.nl_io.specs.declared.source.Failed.{Failed}
use Rattle.nl_output.specs.Writing.{Writes}
use Rattle.edif_library.specs.Text.{EdifReads}
use Rattle.edif_values.specs.declared.file.EdifFile.{EdifFile}
use Rattle.edif_writer.specs.Forms.{edif_text}

-- The sink took the normal text of a file, or a front of it where a put failed; the bytes that were left spell the file, where they are told.
pub record TookText {O : Type 0} (receipt : O → Receipt) (left : Option (List ℕ)) (old new : O) : Type 0 where
  pub file : EdifFile
  pub spelt : IfSome left (λ bytes. EdifReads bytes file)
  pub answer : Result (Unit {0}) Failed
  pub put : Writes receipt old new (edif_text file) answer
