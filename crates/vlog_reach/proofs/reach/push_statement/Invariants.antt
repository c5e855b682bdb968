use Rattle.std.proofs.Common.{◌≡◌, ◌++◌, drop, map}
use Rattle.vlog_reach.specs.Places.{places_in}
use Rattle.vlog_reach.proofs.reach.push_statement.Given as goal

abbrev pub invariant-loop-instance : goal.invariant-loop-instance
invariant-loop-instance l = l.numbers ++ places_in l.names (map (λ instance. l.fn.statement.module) (drop l._instance-index l.fn.statement.insts)) ≡ l.initial.numbers ++ places_in l.names (map (λ instance. l.fn.statement.module) l.fn.statement.insts)
