use Rattle.std.proofs.Common.{◌≡◌, map}
use Rattle.edif_values.specs.declared.view.InterfaceItem.TheVariants as interface_items
use Rattle.edif_parts.proofs.ports.interface_of.Given as goal

abbrev pub invariant-loop-port : goal.invariant-loop-port
invariant-loop-port l = l.items.items ≡ map interface_items.Port l.yielded
