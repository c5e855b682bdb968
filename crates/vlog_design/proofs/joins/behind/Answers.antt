use Rattle.std.proofs.Common.{arith, ◌∙◌}
use Rattle.vlog_design.proofs.RunLaws.{later_bits, later_runs, length_bound}
use Rattle.vlog_design.proofs.joins.behind.Goals as goal

pub overflow_add-length : goal.overflow_add-length
overflow_add-length c = omega (arith, length_bound c.loop-runs.runs.now c.from.result c.from-in-len1-up.result _ c.loop-runs.invariant.are_runs c.in-len1-up.len_at_least c.from.ensures c.from-in-len1-up.ensures)

pub loop-runs-preserved : goal.loop-runs-preserved
loop-runs-preserved c = record {
  are_runs = later_runs c.loop-runs.runs.now c.loop-runs.invariant.are_runs;
  same = later_bits c.loop-runs.runs.now c.loop-runs.passed c.from.result c.from-in-len1-up.result _ c.in-len1-up.len_at_least c.from.ensures c.from-in-len1-up.ensures c.if-passed-length.false ∙ c.loop-runs.invariant.same;
}
