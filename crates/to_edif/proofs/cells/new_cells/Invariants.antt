use Rattle.std.proofs.Common.{take}
use Rattle.to_edif.specs.Cells.{AreNewCells}
use Rattle.to_edif.proofs.cells.new_cells.Given as goal

abbrev pub invariant-loop-place : goal.invariant-loop-place
invariant-loop-place l = AreNewCells l.constants l.plan (take l.place l.values) l.made.items
