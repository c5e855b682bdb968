use Rattle.std.proofs.Common.{◌++◌, ℕ, List, flat_map, take}
use Rattle.digests.specs.Sets.{AreNoted}
use Rattle.vlog_design.specs.Names.{declared_in_item}
use Rattle.vlog_rules.specs.NameDigests.{digests_of}
use Rattle.vlog_rules.proofs.noting.note_items.Given as goal

abbrev pub invariant-loop-item : goal.invariant-loop-item
invariant-loop-item l = (noted : List ℕ) → AreNoted l.initial.digests noted → AreNoted l.digests (noted ++ digests_of (flat_map declared_in_item (take l.item-index l.items)))
