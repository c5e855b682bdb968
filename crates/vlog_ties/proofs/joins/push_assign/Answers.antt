use Rattle.vlog_design.specs.Exprs.{literals}
use Rattle.vlog_design.specs.Numbers.{HasDigits}
use Rattle.vlog_design.proofs.Parts.{all_right}
use Rattle.vlog_ties.proofs.joins.push_assign.Goals as goal

pub push_bits-requires-2-clause-digits : goal.push_bits-requires-2-clause-digits
push_bits-requires-2-clause-digits c = all_right HasDigits (literals c.args.left.now) (literals c.args.right.now) c.requires.digits
