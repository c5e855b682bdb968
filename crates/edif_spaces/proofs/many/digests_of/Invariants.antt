use Rattle.std.proofs.Common.{take}
use Rattle.digests.specs.Sets.{AreNoted}
use Rattle.edif_spaces.proofs.IdentLaws.{seen}
use Rattle.edif_spaces.proofs.ManyLaws.{digests_of}
use Rattle.edif_spaces.proofs.many.digests_of.Given as goal

abbrev pub invariant-loop-name : goal.invariant-loop-name
invariant-loop-name l = AreNoted l.digests (digests_of (seen (take l.name-index l.names)))
