-- The line that `generate` writes.
use Rattle.std.specs.Prelude.{◌≡◌, ℕ, List, length}
use Rattle.edif_resolve.specs.Answers.{IsDesignOf}
use Rattle.net_hier.specs.Design.{Design}
use Rattle.to_verilog.specs.Answers.{IsTranslated}
use Rattle.vectors.specs.Files.{generated}
use Rattle.vectors.specs.Numbers.{swapped_count}
use Rattle.vectors_line.specs.Lines.{leaf_count, no_params, numbers_line, saturated}
use Rattle.vlog_values.specs.Values.{IsVlogValue}
use Rattle.vlog_values.specs.declared.module.VlogFile.{VlogFile}
use Rattle.vlog_writer.specs.Forms.{vlog_text}

-- the line of the generated file of a seed and so many cells. Its last number is the length of the text of modules that can be written and are the same as the design of
-- that file: cell by cell, and so as a whole, whichever cells stand for the constants
pub record IsGeneratedLine (seed cells : ℕ) (line : List ℕ) : Type 0 where
  pub design : Design
  pub is_design : IsDesignOf (generated seed cells) design
  pub modules : VlogFile
  pub translated : IsTranslated design no_params modules
  pub value : IsVlogValue modules
  pub is_line : line ≡ numbers_line cells (swapped_count seed cells) (leaf_count cells) (saturated (length (vlog_text modules)))
