use Rattle.std.proofs.Common.{◌∙◌, arith, sym, []}
use Rattle.edif_lookup.proofs.TableLaws.{first_found}
use Rattle.edif_lookup.proofs.definitions.first_spelled.Goals as goal

pub returns-then-eq : goal.returns-then-eq
returns-then-eq c =
    first_found c.args.entries.now c.loop-entry.entry-index (0, record { ref_ptr = (0, 0); now = [] }) (omega arith) c.args.spelling.now c.loop-entry.invariant (sym c.eq.ensures ∙ c.if-eq.true)
