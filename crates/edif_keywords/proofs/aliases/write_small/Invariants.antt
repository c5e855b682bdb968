use Rattle.std.proofs.Common.{◌≡◌, ◌≤◌, map, length, take}
use Rattle.nl_base.specs.Case.{small}
use Rattle.edif_keywords.proofs.aliases.write_small.Given as goal

abbrev pub invariant-loop-i : goal.invariant-loop-i
invariant-loop-i l = (take l.i l.out ≡ map small (take l.i l.bytes)) × (length l.bytes ≤ length l.out)
