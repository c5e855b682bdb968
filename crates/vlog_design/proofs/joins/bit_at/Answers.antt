use Rattle.std.proofs.Common.{◌-◌, Some, ap, arith, sym, ◌∙◌}
use Rattle.vlog_design.specs.Runs.{node_after}
use Rattle.vlog_design.proofs.RunLaws.{node_at_place, nothing_at}
use Rattle.vlog_design.proofs.joins.bit_at.Goals as goal

pub returns-then-position-gap : goal.returns-then-position-gap
returns-then-position-gap c = sym (nothing_at c.args.run c.args.position (omega (arith, c.from-gap.ensures)))

pub returns : goal.returns
returns c =
    ap Some (c.node_after.ensures ∙ ap (λ gap. node_after c.args.run.first (c.args.position - gap)) c.from-gap.ensures)
    ∙ sym (node_at_place c.args.run c.args.position (omega (arith, c.from-gap.ensures)) c.requires.within)
