use Rattle.std.proofs.Common.{◌++◌, ℕ, List, take}
use Rattle.digests.specs.Sets.{AreNoted}
use Rattle.vlog_rules.specs.NameDigests.{digests_of}
use Rattle.vlog_rules.specs.Seen.{declarations_of}
use Rattle.vlog_rules.proofs.noting.note_all.Given as goal

abbrev pub invariant-loop-declaration : goal.invariant-loop-declaration
invariant-loop-declaration l = (noted : List ℕ) → AreNoted l.initial.digests noted → AreNoted l.digests (noted ++ digests_of (declarations_of (take l.declaration-index l.declarations)))
