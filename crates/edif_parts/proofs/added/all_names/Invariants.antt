use Rattle.std.proofs.Common.{◌≡◌, ◌++◌, drop, map}
use Rattle.edif_written.specs.Naming.{seen}
use Rattle.net_hier.specs.declared.cells.HInst.{HInst}
use Rattle.edif_plans.specs.Summaries.{instance_names}
use Rattle.edif_plans.specs.declared.added.Added.{Added}
use Rattle.edif_parts.proofs.added.all_names.Given as goal

abbrev pub invariant-loop-instance : goal.invariant-loop-instance
invariant-loop-instance l = seen l.names.items ++ map (λ (x : HInst). x.name) (drop l.instance-index l.own) ≡ map (λ (x : HInst). x.name) l.own

abbrev pub invariant-loop-one : goal.invariant-loop-one
invariant-loop-one l = seen l.names.items ++ map (λ (x : Added). x.name) (drop l.one-index l.added) ≡ instance_names l.own l.added
