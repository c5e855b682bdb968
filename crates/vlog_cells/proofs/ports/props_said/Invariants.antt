use Rattle.std.proofs.Common.{◌≡◌, ◌++◌, drop, map}
use Rattle.vlog_design.specs.Design.{attr_props}
use Rattle.vlog_cells.specs.Ports.{attrs_said, said}
use Rattle.vlog_cells.proofs.ports.props_said.Given as goal

abbrev pub invariant-loop-mention : goal.invariant-loop-mention
invariant-loop-mention l = l.made.items ++ attr_props (attrs_said (map said (drop l.mention-index l.mentions))) ≡ attr_props (attrs_said (map said l.mentions))
