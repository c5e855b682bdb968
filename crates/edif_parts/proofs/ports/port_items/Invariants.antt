use Rattle.std.proofs.Common.{◌≡◌, ◌∷◌, map}
use Rattle.edif_values.specs.declared.port.PortItem.TheVariants as port_items
use Rattle.edif_parts.proofs.ports.port_items.Given as goal

abbrev pub invariant-loop-property : goal.invariant-loop-property
invariant-loop-property l = l.items ≡ port_items.Direction l.fn.dir ∷ map port_items.Property l.yielded
