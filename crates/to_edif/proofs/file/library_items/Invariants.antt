use Rattle.std.proofs.Common.{◌≡◌, map}
use Rattle.edif_values.specs.declared.library.LibraryItem.TheVariants as library_items
use Rattle.to_edif.proofs.file.library_items.Given as goal

abbrev pub invariant-loop-cell : goal.invariant-loop-cell
invariant-loop-cell l = l.items.items ≡ map library_items.Cell l.yielded
