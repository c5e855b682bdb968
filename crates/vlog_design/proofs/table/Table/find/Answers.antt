use Rattle.std.proofs.Common.{ap, refl, sym, ◌∙◌}
use Rattle.vlog_design.specs.Names.{signal_named}
use Rattle.vlog_design.specs.Tables.{signals_of}
use Rattle.vlog_design.proofs.Tables.{found, found_behind, found_first}
use Rattle.vlog_design.proofs.table.Table.find.Goals as goal

pub returns-in-Some : goal.returns-in-Some
returns-in-Some c =
    let name = c.args.name.now in
    sym (found_first c.self.inside.few.items c.self.inside.slots.entries name c.in-Some.slot
    (ap (λ es. signal_named (signals_of es) name) (sym c.as_slice.ensures.value) ∙ (sym c.find_among.ensures ∙ c.in-Some.is)))
    ∙ ap (λ s. signal_named s name) c.self.view_is

pub returns-in-None : goal.returns-in-None
returns-in-None c =
    let name = c.args.name.now in
    c.copied.ensures
    ∙ (c.get.ensures.value
    ∙ (found c.self.inside.slots.entries _ name (λ k. refl)
    ∙ (sym (found_behind c.self.inside.few.items c.self.inside.slots.entries name
    (ap (λ es. signal_named (signals_of es) name) (sym c.as_slice.ensures.value) ∙ (sym c.find_among.ensures ∙ c.in-None.is)))
    ∙ ap (λ s. signal_named s name) c.self.view_is)))
