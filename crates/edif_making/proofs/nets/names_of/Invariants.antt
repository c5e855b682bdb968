use Rattle.std.proofs.Common.{◌≡◌, map, take}
use Rattle.edif_plans.specs.NetNames.{name_of_class}
use Rattle.edif_making.proofs.nets.names_of.Given as goal

abbrev pub invariant-loop-place : goal.invariant-loop-place
invariant-loop-place l = l.names.items ≡ map (name_of_class l.inside.nets l.shown.ports) (take l.place l.members)
