use Rattle.std.specs.Prelude.{◌≡◌, []}
use Rattle.readers.specs.Readers.{room}
use Rattle.readers.proofs.Loops.{Collects}
use Rattle.edif_keywords.specs.Language.{edif}
use Rattle.edif_values.specs.Values.{ArePortItems}
use Rattle.edif_values.specs.Sizes.{list_size, port_item_size}
use Rattle.edif_nets.specs.Grammar.{has_direction, port_rest}
use Rattle.edif_nets.proofs.port.port_rest.Given as goal

abbrev pub invariant-loop-items : goal.invariant-loop-items
invariant-loop-items g l =
    Collects edif (port_rest []) (port_rest l.items) (ArePortItems l.items) (list_size port_item_size l.items) l.cursor l.fn.cursor (g.S.Source.supply l.source) (g.S.Source.supply l.fn.source)
    × (l.directed ≡ has_direction l.items)

abbrev pub decreases-loop-items : goal.decreases-loop-items
decreases-loop-items g l = room l.cursor
