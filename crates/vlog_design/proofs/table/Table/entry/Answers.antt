use Rattle.std.proofs.Common.{ap, arith, length, slice_get, sym, ◌≡◌, ◌∙◌, ◌-◌}
use Rattle.vlog_design.proofs.Tables.{signal_behind}
use Rattle.vlog_design.proofs.table.Table.entry.Goals as goal

pub returns-in-Some : goal.returns-in-Some
returns-in-Some c =
    let few = c.self.inside.few.items in
    let count : length c.as_slice-few.result.now ≡ length few = ap length c.as_slice-few.ensures.value in
    signal_behind few c.self.inside.slots.entries c.args.number (c.in-Some.name.now, c.in-Some.slot.now) (omega (arith, count, c.if-number-few.false))
    (ap (λ n. slice_get c.self.inside.slots.entries (c.args.number - n)) (sym count) ∙ sym c.in-Some.ensures.entry)
    ∙ ap (λ s. slice_get s c.args.number) c.self.view_is
