use Rattle.std.proofs.Common.{◌≡◌, ◌-◌, ◌^◌, min, sum_by, take}
use Rattle.edif_values.proofs.size.count_list.Given as goal

abbrev pub invariant-loop-item : goal.invariant-loop-item
invariant-loop-item g l = l.count ≡ min (2 ^ 64 - 1) (sum_by g.T.HasLists.held (take l.item-index l.items))
