use Rattle.std.proofs.Common.{◌∙◌, ap, is_some, sym}
use Rattle.vlog_design.specs.Names.{has_name}
use Rattle.vlog_scopes.specs.Distinct.{signal_names}
use Rattle.vlog_scopes.specs.Filled.{filled}
use Rattle.vlog_scopes.proofs.SignalLaws.{named_some}
use Rattle.vlog_scopes.proofs.new_table.NewTable.has_near.Goals as goal

pub returns-in-Some : goal.returns-in-Some
returns-in-Some c =
    c.is_some.ensures
    ∙ (ap is_some c.find_near.ensures
    ∙ (named_some c.in-Some.table c.args.name.now
    ∙ ap (λ those. has_name (signal_names those) c.args.name.now) (sym (sym c.self.view_is ∙ ap (filled c.self.inside.few.items) c.in-Some.is))))
