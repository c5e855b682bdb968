use Rattle.std.proofs.Common.{All, subst, sym}
use Rattle.vlog_design.specs.Numbers.{HasDigits}
use Rattle.vlog_design.proofs.Parts.{all_of_part}
use Rattle.vlog_ties.specs.Ties.{tie_literals}
use Rattle.vlog_ties.proofs.joins.push_ties.Goals as goal

pub push_tie-requires-clause-digits : goal.push_tie-requires-clause-digits
push_tie-requires-clause-digits c =
    subst (λ tie. All HasDigits (tie_literals tie)) (sym c.tie-item.is) (all_of_part HasDigits tie_literals c.args.ties.now c.loop-tie.tie-index c.tie-item.result c.loop-tie-test.true c.requires.digits)
