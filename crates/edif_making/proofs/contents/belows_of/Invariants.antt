use Rattle.std.proofs.Common.{◌≡◌, ◌++◌, drop, map}
use Rattle.net_hier.specs.declared.cells.HInst.{HInst}
use Rattle.edif_making.proofs.contents.belows_of.Given as goal

abbrev pub invariant-loop-instance : goal.invariant-loop-instance
invariant-loop-instance l = l.belows.items ++ map (λ (one : HInst). one.cell) (drop l.instance-index l.instances) ≡ map (λ (one : HInst). one.cell) l.instances
