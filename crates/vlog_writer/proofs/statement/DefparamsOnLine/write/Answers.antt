use Rattle.vlog_writer.proofs.statement.DefparamsOnLine.write.Goals as goal

pub returns : goal.returns
returns g c b rest s =
    let attrs = rw c.items.ensures at c.write_attributes.ensures in
    let sets = rw c.items-2.ensures at c.write_listed.ensures in
    sets b rest (c.put.ensures b _ (attrs b _ s))
