use Rattle.std.proofs.Common.{◌∙◌}
use Rattle.vlog_rules.proofs.SetLaws.{set_step}
use Rattle.vlog_rules.proofs.lists.name_set.Goals as goal

pub loop-name-preserved : goal.loop-name-preserved
loop-name-preserved c = λ name. set_step c.loop-name.set _ c.args.names.now c.loop-name.name-index _ c.in_ok-add.field-0 c.loop-name-test.true c.in_ok-add.ensures.new c.in_ok-add.ensures.added name ∙ c.loop-name.invariant name
