use Rattle.std.proofs.Common.{◌≡◌, ◌++◌, ◌∷◌, []}
use Rattle.vlog_cells.specs.Nets.{bit_nets}
use Rattle.vlog_cells.proofs.nets.add_bits.Given as goal

abbrev pub invariant-loop-bit : goal.invariant-loop-bit
invariant-loop-bit l = record {
  named : l.front.items ≡ l.wire.name.now ++ 91 ∷ [];
  added : l.made.items ≡ l.initial.made.items ++ bit_nets l.wire l.range l.bit;
}
