use Rattle.std.proofs.Common.{◌≡◌, ◌++◌, drop, map}
use Rattle.net_live.specs.Last.{seen}
use Rattle.to_spice_rules.proofs.again.names_of_cells.Given as goal

abbrev pub invariant-loop-cell : goal.invariant-loop-cell
invariant-loop-cell l = seen l.names.items ++ map (λ x. x.name) (drop l.cell-index l.cells) ≡ map (λ x. x.name) l.cells
