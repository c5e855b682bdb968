use Rattle.edif_writer.proofs.string.write_string.Goals as goal

pub returns : goal.returns
returns g c b rest s = c.put-2.ensures b rest (c.write_runs.ensures b _ (c.put.ensures b _ s))
