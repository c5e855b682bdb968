use Rattle.edif_writer.proofs.file.lay_file_start.Goals as goal

pub returns : goal.returns
returns g c b rest s = c.lay_header.ensures b _ (c.open_block.ensures b _ s)
