use Rattle.std.proofs.Common.{ℕ, List, drop}
use Rattle.edif_writer.specs.Forms.{tree_form}
use Rattle.edif_writer.specs.Layout.{between, each}
use Rattle.nl_output.specs.Writing.{Begin, state, ToCome}
use Rattle.edif_writer.proofs.note.+trees.Given as goal

abbrev pub invariant-write_trees-loop-tree : goal.invariant-write_trees-loop-tree
invariant-write_trees-loop-tree g l =
    (b : Begin) (rest : List ℕ) → ToCome b (state g.O.Sink.receipt l.fn.sink l.fn.output) (between l.fn.blank (each tree_form l.trees) rest)
    → ToCome b (state g.O.Sink.receipt l.sink l.output) (between l.due (each tree_form (drop l.tree-index l.trees)) rest)
