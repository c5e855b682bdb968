use Rattle.std.proofs.Common.{arith}
use Rattle.vlog_tokens.proofs.HeldLiterals.{digits_enough}
use Rattle.vlog_tokens.proofs.literal.held_digits.Goals as goal

pub split_at-requires-2 : goal.split_at-requires-2
split_at-requires-2 c = omega (arith, c.digits_length.ensures, digits_enough c.args.base c.split_at.result.1.now)
