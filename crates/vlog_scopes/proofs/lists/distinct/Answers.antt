use Rattle.vlog_scopes.proofs.DistinctLaws.{set_more_at}
use Rattle.vlog_scopes.proofs.lists.distinct.Goals as goal

pub loop-name-preserved : goal.loop-name-preserved
loop-name-preserved c =
    set_more_at (λ name. name.now) c.args.names.now c.loop-name.set _ c.loop-name.name-index _ c.in_ok-add.field-0 c.loop-name-test.true c.requires c.loop-name.invariant c.in_ok-add.ensures.new c.in_ok-add.ensures.added
