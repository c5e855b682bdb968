use Rattle.std.proofs.Common.{refl}
use Rattle.edif_planning.proofs.ClassLaws.{needed_is}
use Rattle.edif_planning.proofs.ConstantLaws.{known_is}
use Rattle.edif_planning.proofs.constants.Known.of.Goals as goal

pub returns : goal.returns
returns c =
    known_is c.args.constants.now c.args.hier.now c.args.value _ c.is_needed-needed.result _ refl c.is_needed-needed.ensures (needed_is c.args.hier.now c.args.all.now c.cells-cells.ensures.valid.valid c.requires c.args.value) c.first_place-place.ensures
