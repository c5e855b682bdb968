use Rattle.std.proofs.Common.{arith}
use Rattle.readers.proofs.Reading.{sequences}
use Rattle.edif_library.specs.Grammar.{file}
use Rattle.edif_values.specs.Sizes.{edif_size}
use Rattle.edif_library.proofs.Sizes.{less_room}
use Rattle.edif_library.proofs.file.read_file.Goals as goal

pub returns-in_err-begin-clause-reads : goal.returns-in_err-begin-clause-reads
unfolding file
returns-in_err-begin-clause-reads g c = grind (arith, sequences)

pub returns-in_err-name-clause-reads : goal.returns-in_err-name-clause-reads
unfolding file
returns-in_err-name-clause-reads g c = grind (arith, sequences)

pub returns-in_err-header-clause-reads : goal.returns-in_err-header-clause-reads
unfolding file
returns-in_err-header-clause-reads g c = grind (arith, sequences)

pub returns-clause-reads : goal.returns-clause-reads
unfolding file
returns-clause-reads g c = grind (arith, sequences)

pub returns-clause-size : goal.returns-clause-size
returns-clause-size g c = less_room edif_size _ _ _ _ (omega (arith, c.in_ok-begin.ensures.reads.value.2, c.in_ok-name.ensures.reads.value.2, c.in_ok-header.ensures.value.1)) c.file_body.ensures.size
