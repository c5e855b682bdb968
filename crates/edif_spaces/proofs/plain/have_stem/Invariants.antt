use Rattle.std.proofs.Common.{◌≡◌, drop}
use Rattle.std.specs.List.{list_any}
use Rattle.edif_spaces.specs.Plain.{has_stem}
use Rattle.edif_spaces.proofs.IdentLaws.{seen}
use Rattle.edif_spaces.proofs.plain.have_stem.Given as goal

abbrev pub invariant-loop-name : goal.invariant-loop-name
invariant-loop-name l = list_any has_stem (seen (drop l.name-index l.names)) ≡ list_any has_stem (seen l.names)
