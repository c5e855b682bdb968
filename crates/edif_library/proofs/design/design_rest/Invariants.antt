use Rattle.std.specs.Prelude.{[]}
use Rattle.std.specs.List.{AllByRecursion}
use Rattle.edif_values.specs.Values.{IsDesignItem}
use Rattle.edif_values.specs.Sizes.{list_size, design_item_size}
use Rattle.readers.specs.Readers.{room}
use Rattle.readers.proofs.Loops.{Collects}
use Rattle.edif_keywords.specs.Language.{edif}
use Rattle.edif_library.specs.Grammar.{design_rest}
use Rattle.edif_library.proofs.design.design_rest.Given as goal

abbrev pub invariant-loop-items : goal.invariant-loop-items
invariant-loop-items g l = Collects edif (design_rest []) (design_rest l.items) (AllByRecursion IsDesignItem l.items) (list_size design_item_size l.items) l.cursor l.fn.cursor (g.S.Source.supply l.source) (g.S.Source.supply l.fn.source)

abbrev pub decreases-loop-items : goal.decreases-loop-items
decreases-loop-items g l = room l.cursor
