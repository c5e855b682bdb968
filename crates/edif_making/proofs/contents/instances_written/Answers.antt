use Rattle.edif_making.proofs.contents.instances_written.Goals as goal

pub returns : goal.returns
returns c = record { made = c.in_ok-made.made; are_made = c.into_items.ensures; hold = c.in_ok-made.ensures }
