use Rattle.std.proofs.Common.{◌≡◌, ◌++◌, drop}
use Rattle.vlog_design.specs.Design.{attr_props}
use Rattle.vlog_cells.proofs.properties.add_attrs.Given as goal

abbrev pub invariant-loop-attr : goal.invariant-loop-attr
invariant-loop-attr l = l.props.items ++ attr_props (drop l.attr-index l.attrs) ≡ l.initial.props.items ++ attr_props l.attrs
