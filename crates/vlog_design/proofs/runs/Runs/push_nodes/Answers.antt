use Rattle.std.proofs.Common.{ap, ◌∙◌, ◌++◌}
use Rattle.vlog_design.specs.Runs.{nodes_from, runs_bits}
use Rattle.vlog_design.proofs.RunLaws.{with_run, without_nodes}
use Rattle.vlog_design.proofs.runs.Runs.push_nodes.Goals as goal

pub returns-then-count-eq0 : goal.returns-then-count-eq0
returns-then-count-eq0 c = record { added = without_nodes c.args.self.now c.args.first c.args.count c.if-count-eq0.true }

pub returns : goal.returns
returns c = record {
  added = ap (λ l. runs_bits l 0) c.in_ok-push.ensures.items
      ∙ (with_run c.self.inside.runs.items (record { gap = c.self.inside.gap; first = c.args.first; count = c.args.count })
      ∙ ap (λ l. l ++ nodes_from c.args.first c.args.count) c.self.view_is);
}
