use Rattle.std.proofs.Common.{◌≡◌, ◌-◌, ◌^◌, min, sum_by, take}
use Rattle.edif_design.specs.References.{all_cells}
use Rattle.edif_resolve.specs.Most.{most_units}
use Rattle.edif_resolve.proofs.Bounding.{reached_so_far}
use Rattle.edif_resolve.proofs.most.most_of_file.Given as goal

abbrev pub invariant-loop-number : goal.invariant-loop-number
invariant-loop-number l = l.most ≡ min (2 ^ 64 - 1) (sum_by (λ item. most_units item.1.cell) (reached_so_far l.tabled (take l.number (all_cells l.tabled))))
