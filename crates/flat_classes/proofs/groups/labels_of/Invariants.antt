use Rattle.std.proofs.Common.{◌++◌, take}
use Rattle.flat_numbers.specs.Layout.{base_of}
use Rattle.flat_classes.specs.TerminalNumbers.{HaveLabels}
use Rattle.flat_classes.specs.Terminals.{bits_of_ports, ports_at}
use Rattle.flat_classes.specs.declared.flat.Terminal.TheVariants.{Port}
use Rattle.flat_classes.proofs.TerminalLaws.{inner_pins}
use Rattle.flat_classes.proofs.groups.labels_of.Given as goal

abbrev pub invariant-loop-leaf : goal.invariant-loop-leaf
invariant-loop-leaf l = HaveLabels l.hier.cells l.tables.layout.spots.items (base_of l.tables.layout.bases.items l.tables.layout.count) l.labels
    (bits_of_ports (λ port bit. Port port bit) 0 (ports_at l.hier.cells l.tables.layout.spots.items 0) ++ inner_pins l.hier.cells l.tables.layout.spots.items (take l.leaf-index l.leaves)) l.found.items
