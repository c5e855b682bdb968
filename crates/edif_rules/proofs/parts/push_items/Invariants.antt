use Rattle.std.proofs.Common.{◌≡◌, ◌++◌, take}
use Rattle.edif_rules.specs.Lists.{seen}
use Rattle.edif_rules.proofs.parts.push_items.Given as goal

abbrev pub invariant-loop-item : goal.invariant-loop-item
invariant-loop-item l = seen l.list.items ≡ seen l.initial.list.items ++ take l.item-index l.items
