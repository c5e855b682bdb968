use Rattle.std.specs.Prelude.{◌≡◌, []}
use Rattle.edif_values.specs.Sizes.{list_size, cell_item_size}
use Rattle.readers.specs.Readers.{room}
use Rattle.readers.proofs.Loops.{Collects}
use Rattle.edif_keywords.specs.Language.{edif}
use Rattle.edif_library.specs.Grammar.{cell_rest, has_view}
use Rattle.edif_library.proofs.Once.{AreCellItems}
use Rattle.edif_library.proofs.cell.cell_rest.Given as goal

abbrev pub invariant-loop-items : goal.invariant-loop-items
invariant-loop-items g l = (l.viewed ≡ has_view l.items) × Collects edif (cell_rest []) (cell_rest l.items) (AreCellItems l.items) (list_size cell_item_size l.items) l.cursor l.fn.cursor (g.S.Source.supply l.source) (g.S.Source.supply l.fn.source)

abbrev pub decreases-loop-items : goal.decreases-loop-items
decreases-loop-items g l = room l.cursor
