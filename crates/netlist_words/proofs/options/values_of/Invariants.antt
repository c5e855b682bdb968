use Rattle.std.proofs.Common.{◌≡◌, ◌++◌, length}
use Rattle.netlist_words.specs.Parsing.{values_of}
use Rattle.netlist_words.proofs.options.values_of.Given as goal

abbrev pub invariant-loop-left : goal.invariant-loop-left
invariant-loop-left l = l.values ++ values_of l.left ≡ values_of l.words

abbrev pub decreases-loop-left : goal.decreases-loop-left
decreases-loop-left l = length l.left
