use Rattle.std.proofs.Common.{◌∙◌, ◌-◌, ◌^◌}
use Rattle.vlog_ties.proofs.MostJoins.{most_done, most_more}
use Rattle.vlog_ties.proofs.counts.most_joins.Goals as goal

pub loop-tie-preserved : goal.loop-tie-preserved
loop-tie-preserved c =
    c.saturating_add-most.ensures
    ∙ most_more c.args.table.now c.args.ties.now c.loop-tie.tie-index c.tie-item.result (2 ^ 64 - 1) c.loop-tie.most c.left_bits.result c.tie-item.is c.loop-tie-test.true c.loop-tie.invariant c.left_bits.ensures

pub returns : goal.returns
returns c = most_done c.args.table.now c.args.ties.now c.loop-tie.tie-index (2 ^ 64 - 1) c.loop-tie.most c.loop-tie-test.false c.loop-tie.invariant
