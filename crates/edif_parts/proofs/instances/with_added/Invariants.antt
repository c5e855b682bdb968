use Rattle.std.proofs.Common.{◌≡◌, ◌+◌, ◌++◌, drop, length, map}
use Rattle.std.specs.List.{AllByRecursion}
use Rattle.edif_values.specs.Values.{IsInstance}
use Rattle.edif_values.specs.declared.instance.Instance.{Instance}
use Rattle.edif_written.specs.Sound.{IsShort}
use Rattle.edif_plans.specs.Summaries.{added_summary, instance_summary, instance_ident}
use Rattle.edif_plans.specs.NetNames.{HasNoSpareText}
use Rattle.edif_plans.specs.declared.added.Added.{Added}
use Rattle.edif_parts.proofs.instances.with_added.Given as goal

abbrev pub invariant-loop-one : goal.invariant-loop-one
invariant-loop-one l = record {
  idents : map instance_ident l.made ++ drop (length l.made) l.idents ≡ l.idents;
  count : length l.made + length l.added ≡ length l.idents + l.one-index;
  summaries : map instance_summary l.made ++ map (added_summary l.plan) (drop l.one-index l.added) ≡ map instance_summary l.fn.own ++ map (added_summary l.plan) l.added;
  sound : AllByRecursion IsInstance l.fn.own → AllByRecursion (λ (one : Added). IsShort one.name) l.added → AllByRecursion IsInstance l.made;
  no_spare_text : AllByRecursion (λ (i : Instance). HasNoSpareText i.name) l.fn.own → AllByRecursion (λ (i : Instance). HasNoSpareText i.name) l.made;
}
