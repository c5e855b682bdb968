use Rattle.std.proofs.Common.{arith}
use Rattle.vlog_tokens.proofs.HeldPlains.{number_enough}
use Rattle.vlog_tokens.proofs.plain.front_plain.Goals as goal

pub digits_plain-requires : goal.digits_plain-requires
digits_plain-requires c = omega (arith, c.number_length.ensures, number_enough c.args.front.now)
