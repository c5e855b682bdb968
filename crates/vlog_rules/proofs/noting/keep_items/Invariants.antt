use Rattle.std.proofs.Common.{◌≡◌, ◌++◌, drop, flat_map}
use Rattle.vlog_design.specs.Names.{declared_in_item}
use Rattle.vlog_rules.specs.NameDigests.{met_again}
use Rattle.vlog_rules.specs.Seen.{declarations_of}
use Rattle.vlog_rules.proofs.noting.keep_items.Given as goal

abbrev pub invariant-loop-item : goal.invariant-loop-item
invariant-loop-item l = declarations_of l.found.items ++ met_again l.digests (flat_map declared_in_item (drop l.item-index l.items)) ≡ declarations_of l.initial.found.items ++ met_again l.digests (flat_map declared_in_item l.items)
