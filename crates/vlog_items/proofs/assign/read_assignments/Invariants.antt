use Rattle.readers.specs.Readers.{room}
use Rattle.readers.proofs.Loops.{Collects}
use Rattle.vlog_values.specs.Values.{AreSome, IsAssignment}
use Rattle.vlog_values.specs.Sizes.{list_size, assignment_size}
use Rattle.vlog_tokens.specs.Language.{vlog}
use Rattle.vlog_exprs.specs.Grammar.{mark, commas, list}
use Rattle.vlog_items.specs.Grammar.{assignment}
use Rattle.vlog_items.proofs.assign.read_assignments.Given as goal

abbrev pub invariant-loop-sets : goal.invariant-loop-sets
invariant-loop-sets g l = Collects vlog (list assignment (mark 59)) (commas assignment (mark 59) l.sets) (AreSome IsAssignment l.sets) (list_size assignment_size l.sets) l.cursor l.fn.cursor (g.S.Source.supply l.source) (g.S.Source.supply l.fn.source)

abbrev pub decreases-loop-sets : goal.decreases-loop-sets
decreases-loop-sets g l = room l.cursor
