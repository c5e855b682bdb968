use Rattle.std.proofs.Common.{◌∙◌, sym, arith, []}
use Rattle.edif_lookup.proofs.TableLaws.{spelling_turn_known, spelling_turn_new}
use Rattle.edif_lookup.proofs.definitions.spelling_table.Goals as goal
use Rattle.edif_lookup.proofs.definitions.spelling_table.Goals.{then-not-known+in-Ok, else-not-known}

pub loop-entry-preserved : goal.loop-entry-preserved
loop-entry-preserved c =
    elim c.if-not-known.branch [
      | then-not-known+in-Ok w ↦ spelling_turn_new c.args.entries.now c.loop-entry.entry-index (0, record { ref_ptr = (0, 0); now = [] }) (omega arith) c.loop-entry.table c.loop-entry.invariant c.get.result c.get.ensures.value
          (sym c.is_some-known.ensures ∙ cc) c.if-not-known.table w.insert.new.self w.table-is (w.in-Ok.ensures.updates)
      | else-not-known w ↦ spelling_turn_known c.args.entries.now c.loop-entry.entry-index (0, record { ref_ptr = (0, 0); now = [] }) (omega arith) c.loop-entry.table c.loop-entry.invariant c.get.result c.get.ensures.value
          (sym c.is_some-known.ensures ∙ w.if-not-known.false) c.if-not-known.table w.table-is
    ]
