use Rattle.std.proofs.Common.{◌≡◌, map, take}
use Rattle.net_flatten_rules.specs.FlatDesign.{cell_or_none, stub}
use Rattle.net_flatten_cells.proofs.stubs.stubs_of.Given as goal

abbrev pub invariant-loop-number : goal.invariant-loop-number
invariant-loop-number l = l.stubs ≡ map (λ number. stub (cell_or_none l.cells number)) (take l.number-index l.numbers)
