use Rattle.std.proofs.Common.{arith}
use Rattle.edif_status.proofs.Trees.{leaf_choice}
use Rattle.edif_status.proofs.user.read_leaf.Goals as goal

-- src/user.rt:108:8
pub returns-in_err-at_string-clause-reads : goal.returns-in_err-at_string-clause-reads
returns-in_err-at_string-clause-reads g c = grind (arith, leaf_choice)

-- src/user.rt:109:20
pub returns-in_err-text-clause-reads : goal.returns-in_err-text-clause-reads
returns-in_err-text-clause-reads g c = grind (arith, leaf_choice)

-- src/user.rt:110:9
pub returns-then-branch-clause-reads : goal.returns-then-branch-clause-reads
returns-then-branch-clause-reads g c = grind (arith, leaf_choice)

-- src/user.rt:100:1
pub returns-clause-reads : goal.returns-clause-reads
returns-clause-reads g c = grind (arith, leaf_choice)
