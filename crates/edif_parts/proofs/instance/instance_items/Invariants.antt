use Rattle.std.proofs.Common.{◌≡◌, map}
use Rattle.edif_values.specs.declared.instance.InstanceItem.TheVariants as instance_items
use Rattle.edif_parts.proofs.instance.instance_items.Given as goal

abbrev pub invariant-loop-property : goal.invariant-loop-property
invariant-loop-property l = l.items.items ≡ map instance_items.Property l.yielded
