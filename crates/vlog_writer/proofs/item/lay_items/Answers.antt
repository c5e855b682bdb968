use Rattle.std.proofs.Common.{ℕ, List, subst}
use Rattle.nl_output.specs.Writing.{state, ToCome}
use Rattle.vlog_writer.specs.Forms.{item_lines}
use Rattle.vlog_writer.proofs.Steps.{lines_next, lines_end}
use Rattle.vlog_writer.proofs.item.lay_items.Goals as goal

pub loop-item-preserved : goal.loop-item-preserved
loop-item-preserved g c b rest s =
    c.lay_item.ensures b _
    (subst (λ (z : List ℕ). ToCome b (state g.O.Sink.receipt c.loop-item.sink c.loop-item.output) z)
    (lines_next item_lines c.args.items.now c.loop-item.item-index c.item-item.result rest c.loop-item-test.true c.item-item.is) (c.loop-item.invariant b rest s))

pub returns : goal.returns
returns g c b rest s =
    subst (λ (z : List ℕ). ToCome b (state g.O.Sink.receipt c.loop-item.sink c.loop-item.output) z)
    (lines_end item_lines c.args.items.now c.loop-item.item-index rest c.loop-item-test.false) (c.loop-item.invariant b rest s)
