use Rattle.edif_writer.proofs.status.StampOnLine.write.Goals as goal

pub returns : goal.returns
returns g c b rest s =
    c.put-7.ensures b rest (c.write-6.ensures b _ (c.put-6.ensures b _ (c.write-5.ensures b _ (c.put-5.ensures b _ (c.write-4.ensures b _ (c.put-4.ensures b _
    (c.write-3.ensures b _ (c.put-3.ensures b _ (c.write-2.ensures b _ (c.put-2.ensures b _ (c.write.ensures b _ (c.put.ensures b _ s))))))))))))
