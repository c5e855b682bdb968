use Rattle.std.proofs.Common.{◌≡◌, ◌++◌, drop, flat_map}
use Rattle.to_verilog_classes.specs.Roots.{open_bits, root_list}
use Rattle.to_verilog_classes.proofs.roots.roots_of.Given as goal

abbrev pub invariant-loop-number : goal.invariant-loop-number
invariant-loop-number l = l.roots.items ++ flat_map (open_bits l.hier.cells l.cell l.groups) (drop l.number l.ports.keys) ≡ root_list l.hier.cells l.cell l.groups l.ports.keys
