use Rattle.flat_numbers.proofs.Rows.{KnowsBelows}
use Rattle.flat_numbers.proofs.tables.belows_of.Given as goal

abbrev pub invariant-loop-number : goal.invariant-loop-number
invariant-loop-number l = KnowsBelows l.cells l.spots l.number l.items.items
