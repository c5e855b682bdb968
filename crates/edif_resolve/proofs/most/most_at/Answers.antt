use Rattle.std.proofs.Common.{◌∙◌, sym}
use Rattle.edif_design.specs.Tables.{place_of}
use Rattle.edif_resolve.proofs.Building.{own_good}
use Rattle.edif_resolve.proofs.most.most_at.Goals as goal

pub most_units-requires : goal.most_units-requires
most_units-requires c = own_good c.args.tabled.now c.requires.clean c.args.number (place_of c.args.place.now) c.requires.stands (sym c.is_reached.ensures ∙ c.if-not-is_reached.false)
