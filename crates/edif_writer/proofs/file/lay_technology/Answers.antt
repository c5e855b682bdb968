use Rattle.edif_writer.proofs.file.lay_technology.Goals as goal

pub returns : goal.returns
returns g c b rest s =
    let scales = rw c.items.ensures at c.write_each.ensures in
    let notes = rw c.items-2.ensures at c.write_each-2.ensures in
    c.put-3.ensures b rest (notes b _ (c.put-2.ensures b _ (scales b _ (c.put.ensures b _ (c.put_indent.ensures b _ s)))))
