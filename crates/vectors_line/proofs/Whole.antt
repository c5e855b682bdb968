-- The text of a generated file reads as the file.
use Rattle.std.proofs.Common.{arith, ℕ, ◌≤◌}
use Rattle.edif_library.specs.Text.{EdifReads}
use Rattle.edif_rereading.proofs.Law.{text_reads}
use Rattle.edif_writer.specs.Forms.{edif_text}
use Rattle.vectors.specs.Files.{generated}
use Rattle.vectors_laws.proofs.Values.{file_is}
use Rattle.vectors_line.proofs.Parts.{text_fits}

pub text_reads_back : (seed count : ℕ) → count ≤ 100000 → EdifReads (edif_text (generated seed count)) (generated seed count)
text_reads_back seed count few = text_reads (generated seed count) (file_is seed count (omega (arith, few))) (text_fits seed count few)
