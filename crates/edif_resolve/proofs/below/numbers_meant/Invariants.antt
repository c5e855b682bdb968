use Rattle.std.proofs.Common.{◌≡◌, map, take}
use Rattle.edif_design.specs.References.{cell_meant, number_meant}
use Rattle.edif_design.specs.Tables.{seen}
use Rattle.edif_resolve.proofs.below.numbers_meant.Given as goal

abbrev pub invariant-loop-instance : goal.invariant-loop-instance
invariant-loop-instance l = l.numbers.items ≡ map (λ instance. number_meant (cell_meant l.tables l.library instance)) (seen (take l.instance-index l.instance-items))
