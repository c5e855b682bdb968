-- What the translation of a design to SPICE keeps, and why there is none.
use Rattle.std.specs.Prelude.{⊤}
use Rattle.net_hier.specs.Design.{Design}
use Rattle.spice_partners.specs.SamePins.{SamePins}
use Rattle.spice_partners.specs.SpiceDesign.{spice_design}
use Rattle.spice_text.specs.Reading.{HasSpiceNames, SpiceReads}
use Rattle.spice_text.specs.Texts.{spice_text}
use Rattle.spice_text.specs.declared.file.SpiceFile.{SpiceFile}
use Rattle.to_spice_rules.specs.Answers.{IsFirstRefusal, KeepsRules}
use Rattle.to_spice_rules.specs.Names.{refused}
use Rattle.to_spice.specs.Calls.{AreSubcktsOf}
use Rattle.to_spice.specs.declared.translate.SpiceError.{SpiceError}
use Rattle.to_spice.specs.declared.translate.SpiceError.TheVariants.{Refused, NoMemory}

-- The design keeps the rules of SPICE; the file has a subcircuit for each cell, in the order of the design; the design that it says has the same pins; and its
-- names are SPICE words, so that its text reads as the file.
pub record IsSpiceFor (design : Design) (file : SpiceFile) : Type 0 where
  pub keeps_rules : KeepsRules design.cells
  pub subckts : AreSubcktsOf design design.order file.cells
  pub same_pins : SamePins design (spice_design file)
  pub names : HasSpiceNames file
  pub reads_back : SpiceReads (spice_text file) file

-- why a design is not translated: the first object that breaks the lowest broken rule; want of memory has no cause
abbrev pub IsSpiceFault : Design → SpiceError → Type 0
IsSpiceFault design (Refused rule cell names) = IsFirstRefusal design.cells (refused rule cell names)
IsSpiceFault design NoMemory = ⊤
