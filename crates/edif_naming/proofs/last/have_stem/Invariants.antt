use Rattle.std.proofs.Common.{◌≡◌, drop}
use Rattle.std.specs.List.{list_any}
use Rattle.edif_spaces.specs.Plain.{has_stem}
use Rattle.net_hier.specs.declared.cells.HProp.{HProp}
use Rattle.edif_naming.proofs.last.have_stem.Given as goal

abbrev pub invariant-loop-prop : goal.invariant-loop-prop
invariant-loop-prop l = list_any (λ (p : HProp). has_stem p.name) (drop l.prop-index l.props) ≡ list_any (λ (p : HProp). has_stem p.name) l.props
