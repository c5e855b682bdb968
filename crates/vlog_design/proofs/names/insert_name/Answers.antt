use Rattle.std.proofs.Common.{ap, refl, not, ◌∙◌}
use Rattle.vlog_design.proofs.NameSets.{any_name}
use Rattle.vlog_design.proofs.names.insert_name.Goals as goal

pub returns-in-Ok-clause-new : goal.returns-in-Ok-clause-new
returns-in-Ok-clause-new c = c.in-Ok.ensures.added ∙ ap not (any_name c.args.set.now.keys _ c.args.name.now (λ k. refl))
