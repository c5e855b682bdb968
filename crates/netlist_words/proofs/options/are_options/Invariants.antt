use Rattle.std.proofs.Common.{◌≡◌, length}
use Rattle.netlist_words.specs.Parsing.{are_options}
use Rattle.netlist_words.proofs.options.are_options.Given as goal

abbrev pub invariant-loop-left : goal.invariant-loop-left
invariant-loop-left l = are_options l.name l.left ≡ are_options l.name l.words

abbrev pub decreases-loop-left : goal.decreases-loop-left
decreases-loop-left l = length l.left
