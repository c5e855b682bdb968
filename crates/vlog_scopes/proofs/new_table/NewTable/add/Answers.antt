use Rattle.std.proofs.Common.{◌∙◌, ap, sym}
use Rattle.vlog_design.specs.Names.{has_name}
use Rattle.vlog_design.specs.Tables.{signals_of}
use Rattle.vlog_scopes.specs.Distinct.{signal_names}
use Rattle.vlog_scopes.proofs.FilledLaws.{few_distinct}
use Rattle.vlog_scopes.proofs.new_table.NewTable.add.Goals as goal

pub invariant_of-self : goal.invariant_of-self
invariant_of-self c =
    few_distinct c.push_few.result (signals_of c.self.inside.few.items) (signals_of c.push_few.new.few.items) (record { name = c.args.name.now; slot = c.args.slot }) c.self.invariant
    (ap (λ those. has_name (signal_names (signals_of those)) c.args.name.now) (sym c.as_slice.ensures.value) ∙ (sym c.is_among.ensures ∙ c.if-is_among.false))
    c.push_few.ensures.added c.push_few.ensures.kept
