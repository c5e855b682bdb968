use Rattle.std.proofs.Common.{ap, replicate, None, ◌∙◌, ◌++◌}
use Rattle.vlog_design.specs.Runs.{runs_bits}
use Rattle.vlog_design.proofs.RunLaws.{with_gap}
use Rattle.vlog_design.proofs.runs.Runs.push_nothing.Goals as goal

pub returns-in-Some : goal.returns-in-Some
returns-in-Some c = record {
  added = ap (runs_bits c.self.inside.runs.items) c.in-Some.ensures.1
      ∙ (with_gap c.self.inside.runs.items c.self.inside.gap c.args.count ∙ ap (λ l. l ++ replicate c.args.count None) c.self.view_is);
}
