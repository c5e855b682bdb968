use Rattle.std.proofs.Common.{ℕ, List, ap, arith, get_or, map, []}
use Rattle.std.specs.Borrow.{Bor}
use Rattle.nl_base.specs.Case.{small}
use Rattle.edif_lookup.specs.Tables.{is_several}
use Rattle.edif_lookup.proofs.TableLaws.{several_turn, small_turn}
use Rattle.edif_lookup.proofs.definitions.fill_small.Goals as goal

pub loop-entry-init : goal.loop-entry-init
loop-entry-init c = record { holds = c.requires; several = λ none spelling. ap is_several (c.requires spelling) }

pub loop-entry-preserved : goal.loop-entry-preserved
loop-entry-preserved c =
    let d : ℕ × Bor (List ℕ) = (0, record { ref_ptr = (0, 0); now = [] }) in
    let v = c.loop-entry.invariant in
    record {
      holds = small_turn c.args.entries.now c.loop-entry.entry-index d (omega arith) c.loop-entry.table c.add_alike.new.table v.holds c.in_ok-known.ensures.added;
      several = several_turn (get_or c.args.entries.now c.loop-entry.entry-index d).0 (map small (get_or c.args.entries.now c.loop-entry.entry-index d).1.now) c.loop-entry.table c.add_alike.new.table c.in_ok-known.ensures.added
          c.loop-entry.several c.in_ok-known.known c.either-several.result v.several c.in_ok-known.ensures.known c.either-several.ensures;
    }
