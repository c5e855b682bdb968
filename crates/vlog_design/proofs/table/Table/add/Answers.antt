use Rattle.std.proofs.Common.{ap, subst, sym, ◌≡◌, ◌∙◌, None, is_none, is_some, IfOk, true}
use Rattle.vlog_design.specs.Names.{signal_named}
use Rattle.vlog_design.specs.Tables.{signals_of}
use Rattle.vlog_design.proofs.Tables.{found_behind, none_of_is_some, there_first}
use Rattle.vlog_design.proofs.table.Table.add.Goals as goal

pub returns-then-is_some-clause-answer : goal.returns-then-is_some-clause-answer
returns-then-is_some-clause-answer c =
    let few = c.self.inside.few.items in
    let name = c.args.name.now in
    let there : is_some (signal_named (signals_of few) name) ≡ true =
    ap is_some (ap (λ l. signal_named (signals_of l) name) (sym c.as_slice.ensures.value) ∙ sym c.find_among.ensures) ∙ (sym c.is_some.ensures ∙ c.if-is_some.true) in
    there_first few c.self.inside.slots.entries name there ∙ ap (λ s. is_none (signal_named s name)) c.self.view_is

pub returns-clause-answer : goal.returns-clause-answer
returns-clause-answer c =
    let few = c.self.inside.few.items in
    let name = c.args.name.now in
    let missing : signal_named (signals_of few) name ≡ None =
    ap (λ l. signal_named (signals_of l) name) (sym c.as_slice.ensures.value) ∙ (sym c.find_among.ensures ∙ none_of_is_some c.find_among.result (sym c.is_some.ensures ∙ c.if-is_some.false)) in
    subst (λ o. IfOk c.add_slot.result (λ new. new ≡ is_none o)) (sym (found_behind few c.self.inside.slots.entries name missing) ∙ ap (λ s. signal_named s name) c.self.view_is) c.add_slot.ensures.answer
