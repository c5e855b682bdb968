use Rattle.std.proofs.Common.{◌≡◌, ◌++◌, drop, flat_map}
use Rattle.vlog_shown.specs.Interfaces.{bare_item}
use Rattle.vlog_shown.proofs.interfaces.items_copied.Given as goal

abbrev pub invariant-loop-item : goal.invariant-loop-item
invariant-loop-item l = l.made ++ flat_map bare_item (drop l.item-index l.items) ≡ flat_map bare_item l.items
