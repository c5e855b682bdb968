use Rattle.vlog_values.proofs.DigitLaws.{binary_low, hex_low, octal_low}
use Rattle.vlog_values.proofs.bits.push_own.Goals as goal

pub push_digits-requires-clause-digits : goal.push_digits-requires-clause-digits
push_digits-requires-clause-digits c = rw c.bytes-digits.ensures (binary_low _ (rw c.in-Binary.is at c.requires))

pub push_digits-requires-in-Octal-clause-digits : goal.push_digits-requires-in-Octal-clause-digits
push_digits-requires-in-Octal-clause-digits c = rw c.bytes-digits.ensures (octal_low _ (rw c.in-Octal.is at c.requires))

pub push_digits-requires-in-Hex-clause-digits : goal.push_digits-requires-in-Hex-clause-digits
push_digits-requires-in-Hex-clause-digits c = rw c.bytes-digits.ensures (hex_low _ (rw c.in-Hex.is at c.requires))
