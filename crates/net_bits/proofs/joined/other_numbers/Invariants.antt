use Rattle.std.proofs.Common.{◌≡◌, map, take}
use Rattle.net_bits.specs.Ends.{other_number}
use Rattle.net_bits.proofs.joined.other_numbers.Given as goal

abbrev pub invariant-loop-place : goal.invariant-loop-place
invariant-loop-place l = l.others.items ≡ map (other_number l.numbers) (take l.place-index l.places)
