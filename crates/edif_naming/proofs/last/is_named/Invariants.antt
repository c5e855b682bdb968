use Rattle.std.proofs.Common.{◌≡◌, drop}
use Rattle.net_live.specs.Last.{is_named}
use Rattle.edif_naming.proofs.last.is_named.Given as goal

abbrev pub invariant-loop-prop : goal.invariant-loop-prop
invariant-loop-prop l = is_named l.name (drop l.prop-index l.props) ≡ is_named l.name l.props
