use Rattle.std.proofs.Common.{[]}
use Rattle.readers.specs.Readers.{room}
use Rattle.readers.proofs.Loops.{Collects}
use Rattle.edif_keywords.specs.Language.{edif}
use Rattle.std.specs.List.{AllByRecursion}
use Rattle.edif_values.specs.Values.{IsStatusItem}
use Rattle.edif_values.specs.Sizes.{list_size, status_item_size}
use Rattle.edif_status.specs.Grammar.{status_rest}
use Rattle.edif_status.proofs.status.read_status_items.Given as goal

abbrev pub invariant-loop-items : goal.invariant-loop-items
invariant-loop-items g l =
    Collects edif (status_rest []) (status_rest l.items) (AllByRecursion IsStatusItem l.items) (list_size status_item_size l.items) l.cursor l.fn.cursor (g.S.Source.supply l.source) (g.S.Source.supply l.fn.source)

abbrev pub decreases-loop-items : goal.decreases-loop-items
decreases-loop-items g l = room l.cursor
