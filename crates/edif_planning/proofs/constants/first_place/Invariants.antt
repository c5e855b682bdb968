use Rattle.edif_planning.proofs.ConstantLaws.{NoneUpTo}
use Rattle.edif_planning.proofs.constants.first_place.Given as goal

abbrev pub invariant-loop-place : goal.invariant-loop-place
invariant-loop-place l = NoneUpTo l.constants l.hier l.value l.place
