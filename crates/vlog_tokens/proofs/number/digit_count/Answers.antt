use Rattle.std.proofs.Common.{refl, arith}
use Rattle.vlog_tokens.specs.Numbers.{digit_count}
use Rattle.vlog_tokens.proofs.number.digit_count.Goals as goal

pub loop-b-init : goal.loop-b-init
unfolding digit_count
loop-b-init c = record { counted = refl; most = omega arith }
