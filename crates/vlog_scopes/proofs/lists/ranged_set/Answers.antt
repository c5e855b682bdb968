use Rattle.vlog_scopes.proofs.DistinctLaws.{set_more}
use Rattle.vlog_scopes.proofs.lists.ranged_set.Goals as goal

pub loop-one-preserved : goal.loop-one-preserved
loop-one-preserved c =
    set_more (λ one. one.name.now) c.args.ranged.now c.loop-one.set _ c.loop-one.one-index c.one-item.result c.in_ok-add.field-0 c.loop-one-test.true c.one-item.is c.requires c.loop-one.invariant c.in_ok-add.ensures.new c.in_ok-add.ensures.added
