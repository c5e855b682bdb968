use Rattle.std.proofs.Common.{◌≡◌, List, ℕ, map, take}
use Rattle.edif_lookup.specs.Refusals.{in_order, is_in, lowest}
use Rattle.edif_design.specs.FileRules.{library_cell_refusals}
use Rattle.edif_design.specs.Tables.{cell_ident, seen}
use Rattle.edif_resolve.proofs.library.library_refusal.Given as goal

abbrev pub invariant-loop-place : goal.invariant-loop-place
invariant-loop-place l = record {
  best : l.best ≡ lowest (in_order (library_cell_refusals l.tabled l.library l.first) (take l.place (seen l.cells)));
  names : (other : List ℕ) → is_in other l.names ≡ is_in other (map cell_ident (take l.place (seen l.cells)));
}
