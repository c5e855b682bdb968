use Rattle.std.proofs.Common.{◌∙◌, ap, arith}
use Rattle.std.specs.Prelude.{◌||◌}
use Rattle.nl_base.specs.Case.{same_bytes}
use Rattle.edif_lookup.specs.Refusals.{is_in}
use Rattle.edif_resolve.proofs.Walking.{cell_names_turn, cells_turn, nothing}
use Rattle.edif_resolve.proofs.library.library_refusal.Goals as goal

pub loop-place-init : goal.loop-place-init
loop-place-init c = record { best = nothing; names = c.new-names.ensures }

pub loop-place-preserved : goal.loop-place-preserved
loop-place-preserved c = record {
  best = cells_turn c.args.tabled.now c.args.library c.args.first c.args.cells.now c.loop-place.place c.index-cells-place.result (omega arith) c.index-cells-place.is c.loop-place.names c.loop-place.invariant.names
      c.in_ok-taken.taken (c.in_ok-taken.ensures.known ∙ ap (λ s. is_in s c.loop-place.names) c.bytes.ensures.bytes) c.loop-place.best c.in_ok-next.next c.lower-best.result c.loop-place.invariant.best c.in_ok-next.ensures c.lower-best.ensures;
  names = cell_names_turn c.args.tabled.now c.args.library c.args.first c.args.cells.now c.loop-place.place c.index-cells-place.result (omega arith) c.index-cells-place.is c.loop-place.names c.note.new.self c.loop-place.invariant.names
      (λ other. c.in_ok-taken.ensures.noted other ∙ ap (λ s. same_bytes other s || is_in other c.loop-place.names) c.bytes.ensures.bytes);
}
