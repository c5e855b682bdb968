use Rattle.edif_writer.proofs.status.WrittenItemOnLine.write.Goals as goal

pub returns-in-DataOrigin : goal.returns-in-DataOrigin
returns-in-DataOrigin g c = rw c.in-DataOrigin.is (λ b rest s. c.put-in-DataOrigin-2.ensures b rest (c.write_with_version-in-DataOrigin.ensures b _ (c.put-in-DataOrigin.ensures b _ s)))
