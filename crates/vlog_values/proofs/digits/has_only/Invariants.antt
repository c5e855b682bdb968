use Rattle.std.proofs.Common.{◌≡◌, drop}
use Rattle.std.specs.List.{list_all}
use Rattle.vlog_values.specs.Bits.{is_digit}
use Rattle.vlog_values.proofs.digits.has_only.Given as goal

abbrev pub invariant-loop-c : goal.invariant-loop-c
invariant-loop-c l = list_all (is_digit l.base) (drop l.c-index l.digits) ≡ list_all (is_digit l.base) l.digits
