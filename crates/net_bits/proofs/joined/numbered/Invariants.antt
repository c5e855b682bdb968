use Rattle.net_bits.specs.Neighbours.{ends}
use Rattle.net_bits.proofs.EndNumbers.{IsNumbering}
use Rattle.net_bits.proofs.joined.numbered.Given as goal

abbrev pub invariant-loop-key : goal.invariant-loop-key
invariant-loop-key l = IsNumbering (ends l.joins) l.keys l.key-index l.nodes.items l.numbers.items
