use Rattle.std.proofs.Common.{take}
use Rattle.vlog_ties.specs.Sides.{AreSides}
use Rattle.vlog_ties.specs.Ties.{modules_in}
use Rattle.vlog_ties.proofs.sides.sides_of.Given as goal

abbrev pub invariant-loop-scope : goal.invariant-loop-scope
invariant-loop-scope l = AreSides (modules_in l.scopes) (modules_in (take l.scope-index l.scopes)) l.sides
