use Rattle.std.specs.Prelude.{[]}
use Rattle.readers.specs.Readers.{room}
use Rattle.readers.proofs.Loops.{Collects}
use Rattle.std.specs.List.{AllByRecursion}
use Rattle.vlog_values.specs.Values.{IsItem}
use Rattle.vlog_values.specs.Sizes.{list_size, item_size}
use Rattle.vlog_tokens.specs.Language.{vlog}
use Rattle.vlog_modules.specs.Grammar.{items}
use Rattle.vlog_modules.proofs.module.read_items.Given as goal

abbrev pub invariant-loop-items : goal.invariant-loop-items
invariant-loop-items g l = Collects vlog (items []) (items l.items) (AllByRecursion IsItem l.items) (list_size item_size l.items) l.cursor l.fn.cursor (g.S.Source.supply l.source) (g.S.Source.supply l.fn.source)

abbrev pub decreases-loop-items : goal.decreases-loop-items
decreases-loop-items g l = room l.cursor
