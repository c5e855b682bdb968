use Rattle.std.proofs.Common.{arith}
use Rattle.readers.proofs.Reading.{sequences}
use Rattle.vlog_modules.specs.Beginnings.{heading_rest}
use Rattle.vlog_modules.proofs.module.read_heading_rest.Goals as goal

pub returns-in_err-mark-clause-reads : goal.returns-in_err-mark-clause-reads
unfolding heading_rest
returns-in_err-mark-clause-reads g c = grind (arith, sequences)
