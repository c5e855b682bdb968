use Rattle.std.specs.Prelude.{[]}
use Rattle.readers.specs.Readers.{room}
use Rattle.readers.proofs.Loops.{Collects}
use Rattle.edif_keywords.specs.Language.{edif}
use Rattle.std.specs.List.{AllByRecursion}
use Rattle.edif_values.specs.Values.{IsInstanceItem}
use Rattle.edif_values.specs.Sizes.{list_size, instance_item_size}
use Rattle.edif_nets.specs.Grammar.{instance_rest}
use Rattle.edif_nets.proofs.instance.instance_rest.Given as goal

abbrev pub invariant-loop-items : goal.invariant-loop-items
invariant-loop-items g l =
    Collects edif (instance_rest []) (instance_rest l.items) (AllByRecursion IsInstanceItem l.items) (list_size instance_item_size l.items) l.cursor l.fn.cursor (g.S.Source.supply l.source) (g.S.Source.supply l.fn.source)

abbrev pub decreases-loop-items : goal.decreases-loop-items
decreases-loop-items g l = room l.cursor
