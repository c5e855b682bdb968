use Rattle.std.proofs.Common.{◌∙◌, ap, ◌||◌}
use Rattle.nl_base.specs.Case.{same_bytes}
use Rattle.edif_lookup.specs.Refusals.{is_in}
use Rattle.edif_lookup.proofs.NameLaws.{note_known, note_noted}
use Rattle.edif_lookup.proofs.names.NameSet.note.Goals as goal

pub returns-in-Ok-clause-known : goal.returns-in-Ok-clause-known
returns-in-Ok-clause-known c = note_known c.self.inside.set.keys c.args.name.now c.in-Ok.fresh c.in-Ok.ensures.added ∙ ap (is_in c.args.name.now) c.self.view_is

pub returns-in-Ok-clause-noted : goal.returns-in-Ok-clause-noted
returns-in-Ok-clause-noted c other =
    note_noted c.self.inside.set.keys c.insert.new.self.keys (record { bytes = c.args.name }) c.in-Ok.ensures.keys other ∙ ap (λ names. same_bytes other c.args.name.now || is_in other names) c.self.view_is
