use Rattle.std.proofs.Common.{arith}
use Rattle.readers.proofs.Choices.{loops}
use Rattle.vlog_values.specs.Values.{IsAttr}
use Rattle.vlog_exprs.specs.Grammar.{commas, group}
use Rattle.vlog_exprs.proofs.ListLaws.{collects, room_added, length_added, all_added}
use Rattle.vlog_exprs.proofs.attr.read_group.Goals as goal

pub loop-attrs-init : goal.loop-attrs-init
unfolding commas group
loop-attrs-init g c =
    collects (grind (arith, loops)) (all_added c.in_ok-add_boxed.ensures IsAttr c.requires c.in_ok-attr.ensures.value) (omega (arith, length_added c.in_ok-add_boxed.ensures, room_added c.in_ok-add_boxed.ensures, c.in_ok-attr.ensures.reads.value.2))

pub loop-attrs-preserved : goal.loop-attrs-preserved
unfolding commas group
loop-attrs-preserved g c =
    collects (grind (arith, loops)) (all_added c.in_ok-add_boxed-2.ensures IsAttr c.loop-attrs.invariant.good c.in_ok-attr-2.ensures.value)
    (omega (arith, c.loop-attrs.invariant.room, length_added c.in_ok-add_boxed-2.ensures, room_added c.in_ok-add_boxed-2.ensures, c.in_ok-takes_in_group.ensures.value.2, c.in_ok-attr-2.ensures.reads.value.2))
