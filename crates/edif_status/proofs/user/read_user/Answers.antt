use Rattle.std.proofs.Common.{arith}
use Rattle.readers.proofs.Reading.{sequences}
use Rattle.edif_status.specs.Grammar.{user}
use Rattle.edif_status.proofs.user.read_user.Goals as goal

-- src/user.rt:38:16
pub returns-in_err-name-clause-reads : goal.returns-in_err-name-clause-reads
unfolding user
returns-in_err-name-clause-reads g c = grind (arith, sequences)

-- src/user.rt:39:17
pub returns-in_err-trees-clause-reads : goal.returns-in_err-trees-clause-reads
unfolding user
returns-in_err-trees-clause-reads g c = grind (arith, sequences)

-- src/user.rt:30:1
pub returns-clause-reads : goal.returns-clause-reads
unfolding user
returns-clause-reads g c = grind (arith, sequences)
