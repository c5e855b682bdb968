use Rattle.std.proofs.Common.{◌≡◌, drop}
use Rattle.edif_values.specs.Keywords.{has}
use Rattle.edif_values.proofs.keyword.is_among.Given as goal

abbrev pub invariant-loop-other : goal.invariant-loop-other
invariant-loop-other l = has (drop l.other-index l.allowed) l.keyword ≡ has l.allowed l.keyword
