use Rattle.std.proofs.Common.{◌≡◌, map, take}
use Rattle.nl_base.specs.Case.{small}
use Rattle.edif_lookup.specs.Keys.{digest}
use Rattle.edif_lookup.proofs.keys.digest.Given as goal

abbrev pub invariant-loop-byte : goal.invariant-loop-byte
invariant-loop-byte l = l.digest ≡ digest (map small (take l.byte-index l.bytes))
