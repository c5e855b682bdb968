use Rattle.std.proofs.Common.{ℕ, List, subst}
use Rattle.edif_writer.specs.Forms.{tree_form}
use Rattle.nl_output.specs.Writing.{state, ToCome}
use Rattle.edif_writer.proofs.Steps.{between_next, between_end}
use Rattle.edif_writer.proofs.Trees.{word_form, number_form, str_form, list_form}
use Rattle.edif_writer.proofs.note.+trees.Goals as goal

pub write_list-returns : goal.write_list-returns
write_list-returns g t c b rest s = c.put-2.ensures b rest (c.write_trees.ensures b _ (c.put.ensures b _ s))

pub write_tree-returns-in-Word : goal.write_tree-returns-in-Word
write_tree-returns-in-Word g t c = rw (c.in-Word.is, word_form) c.write.ensures

pub write_tree-returns-in-Number : goal.write_tree-returns-in-Number
write_tree-returns-in-Number g t c = rw (c.in-Number.is, number_form) c.write-in-Number.ensures

pub write_tree-returns-in-Str : goal.write_tree-returns-in-Str
write_tree-returns-in-Str g t c = rw (c.in-Str.is, str_form) c.write-in-Str.ensures

pub write_tree-returns-in-List : goal.write_tree-returns-in-List
write_tree-returns-in-List g t c = rw (c.in-List.is, list_form) (rw c.items.ensures at c.write_list.ensures)

pub write_trees-loop-tree-preserved : goal.write_trees-loop-tree-preserved
write_trees-loop-tree-preserved g t c b rest s =
    c.write_tree.ensures b _ (c.put_blank.ensures b _
    (subst (λ (z : List ℕ). ToCome b (state g.O.Sink.receipt c.loop-tree.sink c.loop-tree.output) z)
    (between_next tree_form c.loop-tree.due c.args.trees.now c.loop-tree.tree-index c.tree-item.result rest c.loop-tree-test.true c.tree-item.is) (c.loop-tree.invariant b rest s)))

pub write_trees-returns : goal.write_trees-returns
write_trees-returns g t c b rest s =
    subst (λ (z : List ℕ). ToCome b (state g.O.Sink.receipt c.loop-tree.sink c.loop-tree.output) z)
    (between_end tree_form c.loop-tree.due c.args.trees.now c.loop-tree.tree-index rest c.loop-tree-test.false) (c.loop-tree.invariant b rest s)
