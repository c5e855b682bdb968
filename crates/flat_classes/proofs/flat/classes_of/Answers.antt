use Rattle.flat_numbers.specs.Tables.{rows_in}
use Rattle.flat_classes.proofs.FlatLaws.{flat_labels}
use Rattle.flat_classes.proofs.flat.classes_of.Goals as goal

pub returns : goal.returns
returns c = flat_labels c.args.constants.now c.args.hier.now c.cells-cells.ensures.valid.valid c.requires.are_tables.0 c.args.tables.now.layout c.args.tables.now.belows (rows_in c.args.tables.now.offsets.items) c.requires.are_tables.1 c.args.links.items c.as_slice.result.now c.in_ok-classes.classes.items c.as_slice.ensures.value c.requires.are_links c.in_ok-classes.ensures
