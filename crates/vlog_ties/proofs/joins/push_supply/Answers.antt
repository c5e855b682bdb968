use Rattle.std.proofs.Common.{ℕ}
use Rattle.net_hier.specs.declared.nodes.Join.{Join}
use Rattle.vlog_design.specs.Exprs.{node_at}
use Rattle.vlog_design.proofs.Steps.{moved}
use Rattle.vlog_ties.proofs.Ranges.{range_step}
use Rattle.vlog_ties.proofs.joins.push_supply.Goals as goal

pub loop-bit-preserved : goal.loop-bit-preserved
loop-bit-preserved c =
    let f : ℕ → Join = λ bit. record { a = node_at c.args.slot.place bit; b = c.args.constant } in
    rw (c.in_ok-push.ensures.items, c.node.ensures) (moved _ _ _ c.loop-bit.invariant (range_step f c.loop-bit.bit _ c.loop-bit-test.true))
