use Rattle.std.proofs.Common.{◌≡◌, ◌++◌, drop}
use Rattle.vlog_design.specs.Design.{param_props}
use Rattle.vlog_cells.proofs.properties.add_params.Given as goal

abbrev pub invariant-loop-set : goal.invariant-loop-set
invariant-loop-set l = l.props.items ++ param_props (drop l.set-index l.params) ≡ l.initial.props.items ++ param_props l.params
