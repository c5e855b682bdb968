use Rattle.edif_writer.proofs.file.lay_library_start.Goals as goal

pub returns : goal.returns
returns g c b rest s = c.lay_technology.ensures b _ (c.lay_level.ensures b _ (c.open_library.ensures b _ s))
