use Rattle.std.proofs.Common.{arith}
use Rattle.readers.proofs.Choices.{choices}
use Rattle.vlog_items.specs.Grammar.{overrides}
use Rattle.vlog_exprs.specs.Grammar.{after}
use Rattle.vlog_items.proofs.instance.read_overrides.Goals as goal

pub returns-in_err-takes-clause-reads : goal.returns-in_err-takes-clause-reads
unfolding overrides after
returns-in_err-takes-clause-reads g c = grind (arith, choices)

pub returns-in_err-mark-clause-reads : goal.returns-in_err-mark-clause-reads
unfolding overrides after
returns-in_err-mark-clause-reads g c = grind (arith, choices)

pub returns-in_err-sets-clause-reads : goal.returns-in_err-sets-clause-reads
unfolding overrides after
returns-in_err-sets-clause-reads g c = grind (arith, choices)

pub returns-then-branch-clause-reads : goal.returns-then-branch-clause-reads
unfolding overrides after
returns-then-branch-clause-reads g c = grind (arith, choices)

pub returns-clause-reads : goal.returns-clause-reads
unfolding overrides after
returns-clause-reads g c = grind (arith, choices)
