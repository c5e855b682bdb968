use Rattle.std.proofs.Common.{arith}
use Rattle.readers.proofs.Choices.{choices}
use Rattle.vlog_items.specs.Grammar.{conns}
use Rattle.vlog_exprs.specs.Grammar.{after}
use Rattle.vlog_items.proofs.connection.read_conns.Goals as goal

pub returns-in_err-takes-clause-reads : goal.returns-in_err-takes-clause-reads
unfolding conns after
returns-in_err-takes-clause-reads g c = grind (arith, choices)

pub returns-in_err-conns-clause-reads : goal.returns-in_err-conns-clause-reads
unfolding conns after
returns-in_err-conns-clause-reads g c = grind (arith, choices)

pub returns-then-branch-clause-reads : goal.returns-then-branch-clause-reads
unfolding conns after
returns-then-branch-clause-reads g c = grind (arith, choices)

pub returns-in_err-conns-2-clause-reads : goal.returns-in_err-conns-2-clause-reads
unfolding conns after
returns-in_err-conns-2-clause-reads g c = grind (arith, choices)

pub returns-clause-reads : goal.returns-clause-reads
unfolding conns after
returns-clause-reads g c = grind (arith, choices)
