use Rattle.std.proofs.Common.{◌≡◌, take}
use Rattle.net_bits.specs.NameTables.{digest_of}
use Rattle.net_bits.proofs.names.digest.Given as goal

abbrev pub invariant-loop-byte : goal.invariant-loop-byte
invariant-loop-byte l = l.hash ≡ digest_of l.fold (take l.byte-index l.name)
