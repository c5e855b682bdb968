use Rattle.readers.specs.Readers.{room}
use Rattle.readers.proofs.Loops.{Collects}
use Rattle.vlog_values.specs.Values.{AreSome, IsInstance}
use Rattle.vlog_values.specs.Sizes.{list_size, instance_size}
use Rattle.vlog_tokens.specs.Language.{vlog}
use Rattle.vlog_exprs.specs.Grammar.{mark, commas, list}
use Rattle.vlog_items.specs.Grammar.{instance}
use Rattle.vlog_items.proofs.instance.read_insts.Given as goal

abbrev pub invariant-loop-insts : goal.invariant-loop-insts
invariant-loop-insts g l = Collects vlog (list instance (mark 59)) (commas instance (mark 59) l.insts) (AreSome IsInstance l.insts) (list_size instance_size l.insts) l.cursor l.fn.cursor (g.S.Source.supply l.source) (g.S.Source.supply l.fn.source)

abbrev pub decreases-loop-insts : goal.decreases-loop-insts
decreases-loop-insts g l = room l.cursor
