use Rattle.std.proofs.Common.{◌≡◌, ◌+◌, ◌++◌, None, drop}
use Rattle.vlog_design.specs.Tables.{names_of}
use Rattle.vlog_scopes.specs.Ranged.{net_slots, of_range}
use Rattle.vlog_scopes.proofs.entries.add_single.Given as goal

abbrev pub invariant-loop-number : goal.invariant-loop-number
invariant-loop-number l = l.out ++ net_slots (l.first + l.number) (of_range None (names_of (drop l.number l.names))) ≡ l.initial.out ++ net_slots l.first (of_range None (names_of l.names))
