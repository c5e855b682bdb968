use Rattle.std.proofs.Common.{ap, refl, sym, ◌∙◌, ◌∷◌, ℕ, List, [], append-nil}
use Rattle.std.specs.Borrow.{Bor}
use Rattle.std.proofs.lemmas.List.{map-append}
use Rattle.indexmap.proofs.CallerLemmas.{insert_entry-new}
use Rattle.vlog_design.specs.declared.signals.Slot.{Slot}
use Rattle.vlog_design.specs.Tables.{signal_of, signals_of}
use Rattle.vlog_design.proofs.Tables.{found, is_missing, is_there, put_back}
use Rattle.vlog_design.proofs.table.add_slot.Goals as goal

pub returns-in-Ok-insert-clause-answer : goal.returns-in-Ok-insert-clause-answer
returns-in-Ok-insert-clause-answer c =
    is_there _ c.in-Some.known (sym (found c.args.slots.now.entries _ c.args.name.now (λ k. refl)) ∙ (sym c.in-Ok.ensures.old ∙ c.in-Some.is))

pub returns-in-Ok-insert-clause-added : goal.returns-in-Ok-insert-clause-added
returns-in-Ok-insert-clause-added c =
    let es = c.args.slots.now.entries in
    ap signals_of (put_back _ _ (λ a b. refl) (λ a b. refl) es c.insert.new.self.entries c.insert-in-Some.new.self.entries c.args.name c.args.slot c.in-Some.known
    c.in-Ok.ensures.entries c.in-Ok-insert.ensures.entries (sym (found es _ c.args.name.now (λ k. refl)) ∙ (sym c.in-Ok.ensures.old ∙ c.in-Some.is)))
    ∙ sym (append-nil (signals_of es))

pub returns-in-Ok-clause-answer : goal.returns-in-Ok-clause-answer
returns-in-Ok-clause-answer c =
    is_missing _ (sym (found c.args.slots.now.entries _ c.args.name.now (λ k. refl)) ∙ (sym c.in-Ok.ensures.old ∙ c.in_default-before.is))

pub returns-in-Ok-clause-added : goal.returns-in-Ok-clause-added
returns-in-Ok-clause-added c =
    let es = c.args.slots.now.entries in
    let entry : Bor (List ℕ) × Slot = (c.args.name, c.args.slot) in
    ap signals_of (c.in-Ok.ensures.entries ∙ insert_entry-new _ c.args.slots.now c.args.name c.args.slot (sym c.in-Ok.ensures.old ∙ c.in_default-before.is))
    ∙ map-append signal_of es (entry ∷ [])
