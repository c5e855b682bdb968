use Rattle.std.proofs.Common.{◌+◌, ap, arith, drop, flat_map, sym, ◌∙◌}
use Rattle.std.proofs.lemmas.List.{drop-drop}
use Rattle.vlog_design.specs.Runs.{bits_behind, run_bits}
use Rattle.vlog_design.proofs.RunLaws.{passed_bound}
use Rattle.vlog_design.proofs.joins.Rest.skip.Goals as goal

pub overflow_add-self-inside : goal.overflow_add-self-inside
overflow_add-self-inside c = omega (arith, passed_bound c.self.inside.passed c.self.inside.runs.now c.self.invariant, c.from.ensures, c.ranges.count)

pub returns : goal.returns
returns c =
    c.behind.ensures
    ∙ (ap (λ n. bits_behind (c.self.inside.passed + n) c.self.inside.runs.now) c.from.ensures
    ∙ (sym (drop-drop c.args.count c.self.inside.passed (flat_map run_bits c.self.inside.runs.now)) ∙ ap (drop c.args.count) c.self.view_is))
