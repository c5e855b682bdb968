use Rattle.std.proofs.Common.{◌≡◌, ◌++◌, drop, flat_map}
use Rattle.vlog_design.specs.Names.{declared_port}
use Rattle.vlog_rules.specs.Seen.{declarations_of}
use Rattle.vlog_rules.proofs.declared.push_ports.Given as goal

abbrev pub invariant-loop-name : goal.invariant-loop-name
invariant-loop-name l = declarations_of l.out.items ++ flat_map declared_port (drop l.name-index l.names) ≡ declarations_of l.initial.out.items ++ flat_map declared_port l.names
