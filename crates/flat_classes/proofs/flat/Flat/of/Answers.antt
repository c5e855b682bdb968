use Rattle.std.proofs.Common.{arith}
use Rattle.flat_classes.proofs.FlatSumLaws.{count_is, few_flat}
use Rattle.flat_classes.proofs.flat.Flat.of.Goals as goal

pub returns-then-count-gt-FLAT_LIMIT-clause-fault : goal.returns-then-count-gt-FLAT_LIMIT-clause-fault
returns-then-count-gt-FLAT_LIMIT-clause-fault c = (count_is c.args.hier.now c.cells-cells.ensures.valid.valid c.in_ok-count.count c.in_ok-count.ensures, omega (arith, c.if-count-gt-FLAT_LIMIT.true))

pub returns-clause-classes : goal.returns-clause-classes
returns-clause-classes c = (c.in_ok-flat.ensures, few_flat c.args.hier.now c.cells-cells.ensures.valid.valid c.in_ok-count.count c.in_ok-count.ensures (omega (arith, c.if-count-gt-FLAT_LIMIT.false)))
