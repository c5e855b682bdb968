use Rattle.std.proofs.Common.{◌≡◌, ◌≤◌, ◌+◌, ◌*◌, drop}
use Rattle.vlog_scopes.specs.Filled.{nets_added}
use Rattle.vlog_scopes.specs.Ranged.{of_range, ranged_nets}
use Rattle.vlog_scopes.proofs.entries.add_nets.Given as goal

abbrev pub invariant-loop-name : goal.invariant-loop-name
invariant-loop-name l = record {
  added : nets_added (l.out, l.next) (of_range l.fn.decl.range (drop l.name-index l.fn.decl.names)) ≡ nets_added (l.initial.out, l.first) (ranged_nets l.fn.decl);
  bound : l.next ≤ l.first + l.name-index * 4294967296;
}
