use Rattle.std.proofs.Common.{arith, []}
use Rattle.edif_lookup.proofs.TableLaws.{alike_turn}
use Rattle.edif_lookup.proofs.definitions.all_alike.Goals as goal

pub loop-entry-preserved : goal.loop-entry-preserved
loop-entry-preserved c =
    alike_turn c.args.entries.now c.loop-entry.entry-index (0, record { ref_ptr = (0, 0); now = [] }) (omega arith) c.args.spelling.now
    c.loop-entry.known c.joined_where-known.result c.are_alike.result c.loop-entry.invariant c.are_alike.ensures c.joined_where-known.ensures
