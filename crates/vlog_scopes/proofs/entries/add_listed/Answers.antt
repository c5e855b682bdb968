use Rattle.vlog_scopes.specs.Ranged.{ranged_names}
use Rattle.vlog_scopes.proofs.FilledLaws.{next_port}
use Rattle.vlog_scopes.proofs.entries.add_listed.Goals as goal

pub loop-number-preserved : goal.loop-number-preserved
loop-number-preserved c =
    next_port (ranged_names c.args.directions.now) c.args.out.now c.loop-number.out c.add.new.self c.args.listed.now c.loop-number.number _ c.range_in-range.result c.in_ok-add.field-0 c.loop-number-test.true c.requires.differ
    c.loop-number.invariant c.range_in-range.ensures c.in_ok-add.ensures.new c.in_ok-add.ensures.added
