use Rattle.std.proofs.Common.{◌≡◌, ◌++◌, drop, map}
use Rattle.std.specs.List.{AllByRecursion}
use Rattle.edif_values.specs.Values.{IsInstance}
use Rattle.edif_values.specs.declared.instance.Instance.{Instance}
use Rattle.edif_plans.specs.Summaries.{instance_summary, instance_ident, own_summary}
use Rattle.edif_plans.specs.NetNames.{HasNoSpareText}
use Rattle.edif_plans.specs.Sound.{IsSoundInstance}
use Rattle.edif_parts.proofs.instances.own_instances.Given as goal

abbrev pub invariant-loop-place : goal.invariant-loop-place
invariant-loop-place l = record {
  idents : map instance_ident l.made ++ drop l.place l.idents ≡ l.idents;
  summaries : map instance_summary l.made ++ map (own_summary l.plan) (drop l.place l.instances) ≡ map (own_summary l.plan) l.instances;
  sound : AllByRecursion IsSoundInstance l.instances → AllByRecursion IsInstance l.made;
  no_spare_text : AllByRecursion (λ (i : Instance). HasNoSpareText i.name) l.made;
}
