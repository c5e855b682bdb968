use Rattle.std.proofs.Common.{◌≡◌, ◌++◌, drop, map}
use Rattle.std.specs.List.{enumerate_from}
use Rattle.vlog_written.specs.Written.{instance_item}
use Rattle.to_verilog_items.specs.Instances.{instance_of, instances_of}
use Rattle.to_verilog_items.proofs.instances.push_instances.Given as goal

abbrev pub invariant-loop-number : goal.invariant-loop-number
invariant-loop-number l = l.items ++ map instance_item (map (instance_of l.cells l.cell.ports l.wiring l.params) (enumerate_from l.number (drop l.number l.cell.instances)))
    ≡ l.initial.items ++ map instance_item (instances_of l.cells l.cell l.wiring l.params)
