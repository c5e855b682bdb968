use Rattle.std.proofs.Common.{◌≡◌, take}
use Rattle.edif_design.specs.References.{all_cells}
use Rattle.edif_resolve.proofs.Building.{cells_so_far}
use Rattle.edif_resolve.proofs.cells.design_cells.Given as goal

abbrev pub invariant-loop-number : goal.invariant-loop-number
invariant-loop-number l = l.cells ≡ cells_so_far l.tabled l.numbers (take l.number (all_cells l.tabled))
