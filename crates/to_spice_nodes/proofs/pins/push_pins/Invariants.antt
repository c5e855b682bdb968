use Rattle.std.proofs.Common.{◌≡◌, ◌++◌, map}
use Rattle.std.specs.List.{range_with_len}
use Rattle.net_hier.specs.declared.nodes.Node.TheVariants.{Pin}
use Rattle.to_spice_nodes.proofs.pins.push_pins.Given as goal

abbrev pub invariant-loop-bit : goal.invariant-loop-bit
invariant-loop-bit l = l.pins.items ≡ l.fn.pins.items ++ map (λ b. Pin l.instance l.number b) (range_with_len 0 l.bit)
