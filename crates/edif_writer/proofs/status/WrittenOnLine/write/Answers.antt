use Rattle.edif_writer.proofs.status.WrittenOnLine.write.Goals as goal

pub returns : goal.returns
returns g c b rest s =
    let items = rw c.items.ensures at c.write_each.ensures in
    c.put-2.ensures b rest (items b _ (c.write.ensures b _ (c.put.ensures b _ s)))
