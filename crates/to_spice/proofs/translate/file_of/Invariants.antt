use Rattle.std.proofs.Common.{take}
use Rattle.to_spice.specs.Calls.{AreSubcktsOf}
use Rattle.to_spice.proofs.translate.file_of.Given as goal

abbrev pub invariant-loop-number : goal.invariant-loop-number
invariant-loop-number l = AreSubcktsOf l.hier (take l.number-index l.order) l.cells
