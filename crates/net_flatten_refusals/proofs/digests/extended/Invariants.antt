use Rattle.std.proofs.Common.{◌≡◌, take}
use Rattle.net_flatten_refusals.specs.Digests.{digest_from}
use Rattle.net_flatten_refusals.proofs.digests.extended.Given as goal

abbrev pub invariant-loop-byte : goal.invariant-loop-byte
invariant-loop-byte l = l.digest ≡ digest_from l.text (take l.byte-index l.bytes)
