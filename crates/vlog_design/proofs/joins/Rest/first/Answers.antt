use Rattle.std.proofs.Common.{None, ap, get_or, sym, ◌∙◌}
use Rattle.vlog_design.proofs.RunLaws.{first_behind}
use Rattle.vlog_design.proofs.joins.Rest.first.Goals as goal

pub returns-in-len1-up : goal.returns-in-len1-up
returns-in-len1-up c =
    c.bit_at.ensures
    ∙ (sym (first_behind c.self.inside.runs.now c.self.inside.passed _ c.in-len1-up.len_at_least c.self.invariant.within) ∙ ap (λ bits. get_or bits 0 None) c.self.view_is)
