use Rattle.std.proofs.Common.{All, arith, subst, sym}
use Rattle.vlog_design.specs.Numbers.{HasDigits}
use Rattle.vlog_design.proofs.Parts.{all_of_part}
use Rattle.vlog_ties.specs.Ties.{tie_literals}
use Rattle.vlog_ties.proofs.Counted.{counts_done}
use Rattle.vlog_ties.proofs.counts.ties_count.Goals as goal

pub tie_count-requires : goal.tie_count-requires
tie_count-requires c =
    subst (λ tie. All HasDigits (tie_literals tie)) (sym c.tie-item.is) (all_of_part HasDigits tie_literals c.args.ties.now c.loop-tie.tie-index c.tie-item.result c.loop-tie-test.true c.requires)

pub returns : goal.returns
returns c = omega (arith, counts_done c.args.table.now c.args.ties.now c.loop-tie.tie-index c.loop-tie-test.false, c.loop-tie.invariant.is_sum)
