use Rattle.std.proofs.Common.{take}
use Rattle.edif_resolve.specs.Walk.{HasPassed}
use Rattle.edif_resolve.proofs.file.parts_refusal.Given as goal

abbrev pub invariant-loop-item : goal.invariant-loop-item
invariant-loop-item l = HasPassed l.tabled (take l.item-index l.items) l.walk
