use Rattle.std.proofs.Common.{List, ◌++◌, map, take}
use Rattle.edif_planning.specs.Numbers.{AreHeads, CellNames, old_names}
use Rattle.edif_planning.proofs.heads.add_cells.Given as goal

abbrev pub invariant-loop-number : goal.invariant-loop-number
invariant-loop-number l = (wanted : List CellNames) → AreHeads wanted l.fn.heads.space l.fn.heads.made.items → AreHeads (wanted ++ map (old_names l.hier.cells) (take l.number-index l.order)) l.heads.space l.heads.made.items
