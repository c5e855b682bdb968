use Rattle.std.proofs.Common.{◌≡◌, drop}
use Rattle.std.specs.List.{list_any}
use Rattle.net_live.specs.Live.{needs_constant}
use Rattle.edif_planning.proofs.classes.is_needed.Given as goal

abbrev pub invariant-loop-classes : goal.invariant-loop-classes
invariant-loop-classes l = list_any (λ classes. needs_constant classes l.value) (drop l.classes-index l.all) ≡ list_any (λ classes. needs_constant classes l.value) l.all
