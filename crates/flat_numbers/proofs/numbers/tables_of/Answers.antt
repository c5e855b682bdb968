use Rattle.std.proofs.Common.{subst, sym}
use Rattle.flat_numbers.specs.Tables.{AreSmall}
use Rattle.flat_numbers.proofs.Offsets.{small_cells}
use Rattle.flat_numbers.proofs.numbers.tables_of.Goals as goal

pub offsets_of-requires : goal.offsets_of-requires
offsets_of-requires c = subst AreSmall (sym c.cells-cells.ensures.cells) (small_cells c.args.hier.now c.args.count c.cells-cells.ensures.valid.valid c.requires.counted c.requires.few)
