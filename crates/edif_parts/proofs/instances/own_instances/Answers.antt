use Rattle.std.proofs.Common.{refl, rules, arith}
use Rattle.edif_values.specs.Values.{IsInstance}
use Rattle.edif_values.specs.declared.instance.Instance.{Instance}
use Rattle.edif_written.proofs.Lists.{all_push}
use Rattle.edif_plans.specs.Summaries.{instance_summary, instance_ident, own_summary}
use Rattle.edif_plans.specs.NetNames.{HasNoSpareText}
use Rattle.edif_plans.specs.Sound.{IsSoundInstance}
use Rattle.edif_plans.proofs.Lists.{all_turn, is_at, item_turn, map_turn}
use Rattle.edif_parts.proofs.instances.own_instances.Goals as goal

pub own_instance-requires : goal.own_instance-requires
own_instance-requires c = c.requires.heads c.loop-place.place c.index-instances-place.result (is_at c.args.instances.now c.loop-place.place c.index-instances-place.result c.index-instances-place.result c.loop-place-test.true (search rules))

pub loop-place-preserved : goal.loop-place-preserved
loop-place-preserved c = record {
  idents = item_turn instance_ident c.args.idents.now c.loop-place.place _ c.index-idents-place.result c.index-idents-place.result _ _ c.in_ok-instance.instance _
      (omega (arith, c.requires.idents, c.loop-place-test.true)) (search rules) c.loop-place.invariant.idents c.in_ok-push.ensures c.in_ok-instance.ensures.ident refl;
  summaries = map_turn instance_summary (own_summary c.args.plan.now) c.args.instances.now c.loop-place.place c.index-instances-place.result c.index-instances-place.result _ _ c.in_ok-instance.instance _ c.loop-place-test.true (search rules) c.loop-place.invariant.summaries c.in_ok-push.ensures c.in_ok-instance.ensures.summary;
  sound = all_turn IsSoundInstance IsInstance c.args.instances.now c.loop-place.place c.index-instances-place.result c.index-instances-place.result _ _ c.in_ok-instance.instance c.loop-place-test.true (search rules) c.loop-place.invariant.sound c.in_ok-push.ensures c.in_ok-instance.ensures.sound;
  no_spare_text = all_push (λ (i : Instance). HasNoSpareText i.name) c.loop-place.made _ c.in_ok-instance.instance c.loop-place.invariant.no_spare_text c.in_ok-instance.ensures.no_spare_text c.in_ok-push.ensures;
}
