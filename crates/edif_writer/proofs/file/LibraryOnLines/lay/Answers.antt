use Rattle.edif_writer.proofs.file.LibraryOnLines.lay.Goals as goal

pub returns : goal.returns
returns g c b rest s =
    let items = rw c.items.ensures at c.lay_each.ensures in
    c.put_close.ensures b rest (items b _ (c.lay_library_start.ensures b _ s))
