use Rattle.std.proofs.Common.{◌≡◌, length}
use Rattle.netlist_cli.specs.Meanings.{params_of, with_names}
use Rattle.netlist_cli.proofs.translating.params_of.Given as goal

abbrev pub invariant-loop-left : goal.invariant-loop-left
invariant-loop-left l = with_names l.set l.left ≡ params_of l.names

abbrev pub decreases-loop-left : goal.decreases-loop-left
decreases-loop-left l = length l.left
