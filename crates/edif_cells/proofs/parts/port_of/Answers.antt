use Rattle.edif_cells.proofs.GoodSizes.{good_name}
use Rattle.edif_cells.proofs.parts.port_of.Goals as goal

pub port_original-range-requires : goal.port_original-range-requires
port_original-range-requires c = good_name c.args.port.now.name c.requires
