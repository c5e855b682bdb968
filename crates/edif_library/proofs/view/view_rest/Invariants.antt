use Rattle.std.specs.Prelude.{◌≡◌, []}
use Rattle.edif_values.specs.Sizes.{list_size, view_item_size}
use Rattle.readers.specs.Readers.{room}
use Rattle.readers.proofs.Loops.{Collects}
use Rattle.edif_keywords.specs.Language.{edif}
use Rattle.edif_library.specs.Grammar.{view_rest, has_contents}
use Rattle.edif_library.proofs.Once.{AreViewItems}
use Rattle.edif_library.proofs.view.view_rest.Given as goal

abbrev pub invariant-loop-items : goal.invariant-loop-items
invariant-loop-items g l = (l.filled ≡ has_contents l.items) × Collects edif (view_rest []) (view_rest l.items) (AreViewItems l.items) (list_size view_item_size l.items) l.cursor l.fn.cursor (g.S.Source.supply l.source) (g.S.Source.supply l.fn.source)

abbrev pub decreases-loop-items : goal.decreases-loop-items
decreases-loop-items g l = room l.cursor
