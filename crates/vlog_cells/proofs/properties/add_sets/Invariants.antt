use Rattle.std.proofs.Common.{◌≡◌, ◌++◌, drop, map}
use Rattle.vlog_cells.specs.Instances.{set_prop, sets_of}
use Rattle.vlog_cells.proofs.properties.add_sets.Given as goal

abbrev pub invariant-loop-set : goal.invariant-loop-set
invariant-loop-set l = l.props.items ++ map set_prop (sets_of (drop l.set-index l.sets)) ≡ l.initial.props.items ++ map set_prop (sets_of l.sets)
