use Rattle.std.specs.Prelude.{[]}
use Rattle.std.specs.List.{AllByRecursion}
use Rattle.edif_values.specs.Values.{IsLibraryItem}
use Rattle.edif_values.specs.Sizes.{list_size, library_item_size}
use Rattle.readers.specs.Readers.{room}
use Rattle.readers.proofs.Loops.{Collects}
use Rattle.edif_keywords.specs.Language.{edif}
use Rattle.edif_library.specs.Grammar.{library_rest}
use Rattle.edif_library.proofs.library.library_rest.Given as goal

abbrev pub invariant-loop-items : goal.invariant-loop-items
invariant-loop-items g l = Collects edif (library_rest []) (library_rest l.items) (AllByRecursion IsLibraryItem l.items) (list_size library_item_size l.items) l.cursor l.fn.cursor (g.S.Source.supply l.source) (g.S.Source.supply l.fn.source)

abbrev pub decreases-loop-items : goal.decreases-loop-items
decreases-loop-items g l = room l.cursor
