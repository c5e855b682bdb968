use Rattle.std.proofs.Common.{◌≡◌, drop, map}
use Rattle.edif_meanings.specs.Apart.{is_alike_any}
use Rattle.edif_written.specs.Naming.{ident_of}
use Rattle.edif_naming.proofs.last.is_taken.Given as goal

abbrev pub invariant-loop-property : goal.invariant-loop-property
invariant-loop-property l = is_alike_any l.name (map ident_of (drop l.property-index l.made)) ≡ is_alike_any l.name (map ident_of l.made)
