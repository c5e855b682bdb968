use Rattle.std.proofs.Common.{sym}
use Rattle.vlog_values.proofs.DigitLaws.{decimal_number}
use Rattle.vlog_values.proofs.bits.push_decimal.Goals as goal

pub decimal_number-requires-clause-digits : goal.decimal_number-requires-clause-digits
decimal_number-requires-clause-digits c = (decimal_number _ (sym c.if-is_x_digit.ensures) (sym c.if-is_z_digit.ensures) c.requires).low

pub decimal_number-requires-clause-fits : goal.decimal_number-requires-clause-fits
decimal_number-requires-clause-fits c = (decimal_number _ (sym c.if-is_x_digit.ensures) (sym c.if-is_z_digit.ensures) c.requires).fits
