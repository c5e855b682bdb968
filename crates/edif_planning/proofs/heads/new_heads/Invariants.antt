use Rattle.std.proofs.Common.{map, take}
use Rattle.edif_planning.specs.Numbers.{AreHeads, new_names}
use Rattle.edif_planning.proofs.heads.new_heads.Given as goal

abbrev pub invariant-loop-value : goal.invariant-loop-value
invariant-loop-value l = AreHeads (map (new_names l.constants) (take l.value-index l.values)) l.heads.space l.heads.made.items
