use Rattle.std.proofs.Common.{◌≡◌, ◌-◌, ◌^◌, take}
use Rattle.std.specs.Prelude.{min}
use Rattle.edif_tokens.specs.Spelling.{decimal_value}
use Rattle.edif_tokens.proofs.scan.integer_of.Given as goal

abbrev pub invariant-loop-d : goal.invariant-loop-d
invariant-loop-d l = l.magnitude ≡ min (decimal_value (take l.d-index l.digits)) (2 ^ 64 - 1)
