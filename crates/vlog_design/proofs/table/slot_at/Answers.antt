use Rattle.std.proofs.Common.{ap, bytes_eq, refl, sym, ◌∙◌}
use Rattle.std.proofs.lemmas.Slice.Eq.{bytes_eq-Decides}
use Rattle.vlog_design.specs.Names.{signal_named}
use Rattle.vlog_design.specs.Tables.{signals_of}
use Rattle.vlog_design.proofs.Tables.{found}
use Rattle.vlog_design.proofs.table.slot_at.Goals as goal

pub returns-then-eq : goal.returns-then-eq
returns-then-eq c =
    let entries = c.args.slots.now.entries in
    sym (found entries (λ k. bytes_eq c.in-Some.key.now.now k.now) c.in-Some.key.now.now (λ k. refl)
    ∙ ap (signal_named (signals_of entries)) ((bytes_eq-Decides c.in-Some.key.now.now c.args.name.now).0 (sym c.eq.ensures ∙ c.if-eq.true)))
    ∙ c.in-Some.ensures.value
