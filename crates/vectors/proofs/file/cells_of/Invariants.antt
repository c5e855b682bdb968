use Rattle.std.proofs.Common.{◌≡◌, ◌+◌, map}
use Rattle.edif_values.specs.declared.library.LibraryItem.TheVariants as library_items
use Rattle.vectors.specs.Files.{cells_of}
use Rattle.vectors.specs.Numbers.{number_at}
use Rattle.vectors.proofs.file.cells_of.Given as goal

abbrev pub invariant-loop-below : goal.invariant-loop-below
invariant-loop-below l = record {
  number : l.number ≡ number_at l.seed l.below;
  made : l.made ≡ map library_items.Cell (cells_of l.seed (l.below + 1));
}
