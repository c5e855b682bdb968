use Rattle.std.proofs.Common.{arith}
use Rattle.edif_status.proofs.Due.{version_or_end}
use Rattle.edif_status.specs.Grammar.{maybe_version}
use Rattle.edif_status.proofs.written.read_version.Goals as goal

-- src/written.rt:209:8
pub returns-in_err-at_form-clause-reads : goal.returns-in_err-at_form-clause-reads
unfolding maybe_version
returns-in_err-at_form-clause-reads g c = grind (arith, version_or_end)

-- src/written.rt:210:9
pub returns-in_err-begin-clause-reads : goal.returns-in_err-begin-clause-reads
unfolding maybe_version
returns-in_err-begin-clause-reads g c = grind (arith, version_or_end)

-- src/written.rt:211:9
pub returns-then-branch-clause-reads : goal.returns-then-branch-clause-reads
unfolding maybe_version
returns-then-branch-clause-reads g c = grind (arith, version_or_end)

-- src/written.rt:201:1
pub returns-clause-reads : goal.returns-clause-reads
unfolding maybe_version
returns-clause-reads g c = grind (arith, version_or_end)
