use Rattle.std.proofs.Common.{◌≡◌, true}
use Rattle.net_hier.proofs.Fitting.{HoldsBefore}
use Rattle.net_hier.proofs.fit.all_marked.Given as goal

abbrev pub invariant-loop-mark : goal.invariant-loop-mark
invariant-loop-mark l = HoldsBefore (λ mark. mark ≡ true) l.marks l.mark-index
