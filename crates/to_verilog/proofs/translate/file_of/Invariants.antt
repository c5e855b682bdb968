use Rattle.std.proofs.Common.{take}
use Rattle.to_verilog.specs.Answers.{AreModules}
use Rattle.to_verilog.proofs.translate.file_of.Given as goal

abbrev pub invariant-loop-number : goal.invariant-loop-number
invariant-loop-number l = AreModules l.hier l.params (take l.number-index l.order) l.modules
