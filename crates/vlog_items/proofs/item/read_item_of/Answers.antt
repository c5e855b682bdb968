use Rattle.std.proofs.Common.{arith}
use Rattle.readers.proofs.Choices.{choices}
use Rattle.vlog_items.specs.Grammar.{item}
use Rattle.vlog_items.proofs.item.read_item_of.Goals as goal

pub returns-in_err-of_module-clause-reads : goal.returns-in_err-of_module-clause-reads
unfolding item
returns-in_err-of_module-clause-reads g c = grind (arith, choices)

pub returns-in_err-item-in-Some-clause-reads : goal.returns-in_err-item-in-Some-clause-reads
unfolding item
returns-in_err-item-in-Some-clause-reads g c = grind (arith, choices)

pub returns-in_err-word-in-None-clause-reads : goal.returns-in_err-word-in-None-clause-reads
unfolding item
returns-in_err-word-in-None-clause-reads g c = grind (arith, choices)

pub returns-in_err-item-in-None-clause-reads : goal.returns-in_err-item-in-None-clause-reads
unfolding item
returns-in_err-item-in-None-clause-reads g c = grind (arith, choices)

pub returns-in_ok-item-in-Some-clause-reads : goal.returns-in_ok-item-in-Some-clause-reads
unfolding item
returns-in_ok-item-in-Some-clause-reads g c = grind (arith, choices)

pub returns-in_ok-item-in-None-clause-reads : goal.returns-in_ok-item-in-None-clause-reads
unfolding item
returns-in_ok-item-in-None-clause-reads g c = grind (arith, choices)
