use Rattle.std.proofs.Common.{arith, length, rules}
use Rattle.edif_values.specs.Values.{IsInstance}
use Rattle.edif_values.specs.declared.instance.Instance.{Instance}
use Rattle.edif_written.proofs.Lists.{all_push}
use Rattle.edif_written.specs.Sound.{IsShort}
use Rattle.edif_plans.specs.Summaries.{added_summary, instance_summary, instance_ident}
use Rattle.edif_plans.specs.NetNames.{HasNoSpareText}
use Rattle.edif_plans.specs.declared.added.Added.{Added}
use Rattle.edif_plans.proofs.Lists.{all_turn, is_at, item_turn, map_turn}
use Rattle.edif_parts.proofs.InstanceLaws.{longer}
use Rattle.edif_parts.proofs.instances.with_added.Goals as goal

pub added_instance-requires : goal.added_instance-requires
added_instance-requires c = c.requires.heads c.loop-one.one-index c.one-item.result (is_at c.args.added.now c.loop-one.one-index c.one-item.result c.one-item.result c.loop-one-test.true c.one-item.is)

pub loop-one-preserved : goal.loop-one-preserved
loop-one-preserved c = record {
  idents = item_turn instance_ident c.args.idents.now (length c.loop-one.made) _ c.index-idents-place.result c.index-idents-place.result c.loop-one.made _ c.in_ok-instance.instance _
      (omega (arith, c.loop-one.invariant.count, c.loop-one-test.true)) (search rules) c.loop-one.invariant.idents c.in_ok-push.ensures c.in_ok-instance.ensures.ident (longer c.loop-one.made _ c.in_ok-instance.instance c.in_ok-push.ensures);
  count = let e = longer c.loop-one.made _ c.in_ok-instance.instance c.in_ok-push.ensures in omega (arith, e, c.loop-one.invariant.count);
  summaries = map_turn instance_summary (added_summary c.args.plan.now) c.args.added.now c.loop-one.one-index c.one-item.result c.one-item.result c.loop-one.made _ c.in_ok-instance.instance _ c.loop-one-test.true c.one-item.is c.loop-one.invariant.summaries c.in_ok-push.ensures c.in_ok-instance.ensures.summary;
  sound = λ own. all_turn (λ (one : Added). IsShort one.name) IsInstance c.args.added.now c.loop-one.one-index c.one-item.result c.one-item.result c.loop-one.made _ c.in_ok-instance.instance c.loop-one-test.true c.one-item.is (c.loop-one.invariant.sound own) c.in_ok-push.ensures c.in_ok-instance.ensures.sound;
  no_spare_text = λ own. all_push (λ (i : Instance). HasNoSpareText i.name) c.loop-one.made _ c.in_ok-instance.instance (c.loop-one.invariant.no_spare_text own) c.in_ok-instance.ensures.no_spare_text c.in_ok-push.ensures;
}
