use Rattle.std.proofs.Common.{◌≡◌, ◌++◌, OnOk, ap, subst, ◌∙◌}
use Rattle.vlog_design.specs.Runs.{nodes_from}
use Rattle.vlog_design.proofs.RunLaws.{nodes_of_span}
use Rattle.vlog_design.proofs.bits.push_span.Goals as goal

pub returns : goal.returns
returns c = record {
  added = subst (λ all. OnOk c.push_nodes.result (c.push_nodes.new.self ≡ c.args.out.now ++ all))
      (ap (λ n. nodes_from n c.args.span.count) c.node.ensures ∙ nodes_of_span c.args.place c.args.span.first c.args.span.count)
      c.push_nodes.ensures.added;
}
