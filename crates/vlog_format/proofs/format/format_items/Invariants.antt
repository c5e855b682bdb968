use Rattle.std.proofs.Common.{List, []}
use Rattle.readers.specs.Readers.{room}
use Rattle.readers.proofs.Loops.{Goes}
use Rattle.vlog_values.specs.declared.module.ItemV.{ItemV}
use Rattle.vlog_values.specs.declared.module.Module.{Module}
use Rattle.vlog_tokens.specs.Language.{vlog}
use Rattle.vlog_modules.specs.Grammar.{items}
use Rattle.vlog_format.specs.Texts.{IsTextUpTo}
use Rattle.vlog_format.proofs.format.format_items.Given as goal

abbrev pub invariant-loop-cursor : goal.invariant-loop-cursor
invariant-loop-cursor g l =
    (so_far : List ItemV) × ((ms : List Module) (heading : Module) → IsTextUpTo l.fn.text ms heading [] → IsTextUpTo l.text ms heading so_far)
    × Goes vlog (items []) (items so_far) l.cursor l.fn.cursor (g.S.Source.supply l.source) (g.S.Source.supply l.fn.source)

abbrev pub decreases-loop-cursor : goal.decreases-loop-cursor
decreases-loop-cursor g l = room l.cursor
