use Rattle.vlog_scopes.proofs.FilledLaws.{next_single}
use Rattle.vlog_scopes.proofs.entries.add_single.Goals as goal

pub loop-number-preserved : goal.loop-number-preserved
loop-number-preserved c =
    next_single c.args.first c.args.out.now c.loop-number.out c.add.new.self c.args.names.now c.loop-number.number _ c.in_ok-add.field-0 c.loop-number-test.true c.requires.differ c.loop-number.invariant c.in_ok-add.ensures.new c.in_ok-add.ensures.added
