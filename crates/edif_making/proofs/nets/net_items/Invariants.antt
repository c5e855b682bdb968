use Rattle.std.proofs.Common.{◌≡◌, map}
use Rattle.edif_values.specs.declared.net.NetItem.TheVariants as net_items
use Rattle.edif_making.proofs.nets.net_items.Given as goal

abbrev pub invariant-loop-property : goal.invariant-loop-property
invariant-loop-property l = l.items.items ≡ map net_items.Property l.yielded
