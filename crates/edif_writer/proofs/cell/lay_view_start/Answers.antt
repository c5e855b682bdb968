use Rattle.edif_writer.proofs.cell.lay_view_start.Goals as goal

pub returns : goal.returns
returns g c b rest s = c.lay_interface.ensures b _ (c.put_line.ensures b _ (c.open_block.ensures b _ s))
