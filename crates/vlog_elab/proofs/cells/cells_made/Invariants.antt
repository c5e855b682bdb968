use Rattle.std.proofs.Common.{◌≡◌}
use Rattle.vlog_shown.specs.Interfaces.{cells_shown}
use Rattle.vlog_ties.specs.Ties.{modules_in}
use Rattle.vlog_elab.proofs.cells.cells_made.Given as goal

abbrev pub invariant-loop-m : goal.invariant-loop-m
invariant-loop-m l = l.cells ≡ cells_shown (modules_in l.scopes) l.yielded
