use Rattle.std.proofs.Common.{arith}
use Rattle.edif_status.proofs.Trees.{plain_choice}
use Rattle.edif_status.proofs.user.read_plain.Goals as goal

-- src/user.rt:124:8
pub returns-in_err-at_number-clause-reads : goal.returns-in_err-at_number-clause-reads
returns-in_err-at_number-clause-reads g c = grind (arith, plain_choice)

-- src/user.rt:125:22
pub returns-in_err-number-clause-reads : goal.returns-in_err-number-clause-reads
returns-in_err-number-clause-reads g c = grind (arith, plain_choice)

-- src/user.rt:126:9
pub returns-then-branch-clause-reads : goal.returns-then-branch-clause-reads
returns-then-branch-clause-reads g c = grind (arith, plain_choice)

-- src/user.rt:128:16
pub returns-in_err-word-clause-reads : goal.returns-in_err-word-clause-reads
returns-in_err-word-clause-reads g c = grind (arith, plain_choice)

-- src/user.rt:116:1
pub returns-clause-reads : goal.returns-clause-reads
returns-clause-reads g c = grind (arith, plain_choice)
