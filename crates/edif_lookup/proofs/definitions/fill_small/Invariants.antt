use Rattle.std.proofs.Common.{◌≡◌, ℕ, List, false, take}
use Rattle.edif_lookup.specs.Tables.{HoldsSmall, at_small, is_several, written}
use Rattle.edif_lookup.proofs.definitions.fill_small.Given as goal

abbrev pub invariant-loop-entry : goal.invariant-loop-entry
invariant-loop-entry l = record {
  holds : HoldsSmall (written (take l.entry-index l.entries)) l.table;
  several : l.several ≡ false → (spelling : List ℕ) → is_several (at_small spelling l.table) ≡ false;
}
