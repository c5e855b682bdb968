use Rattle.std.proofs.Common.{ℕ, ◌-◌, List, ◌≤◌, ◌+◌}
use Rattle.nl_bytes.specs.Bytes.{Uses}
use Rattle.nl_bytes.specs.Classes.{AreIn}
use Rattle.nl_bytes.specs.declared.bytes.TheConstants.{LIMIT}
use Rattle.nl_bytes.proofs.bytes.Bytes.skip.Given as goal

abbrev pub invariant-loop-next : goal.invariant-loop-next
invariant-loop-next g l = record {
  used : List ℕ;
  uses : Uses l.fn.self l.self (g.S.Source.supply l.fn.source).left (g.S.Source.supply l.source).left used;
  each : AreIn l.class used;
  count : (g.S.Source.supply l.fn.source).faults ≤ (g.S.Source.supply l.source).faults;
}

abbrev pub decreases-loop-next : goal.decreases-loop-next
decreases-loop-next g l = LIMIT + 1 - l.self.place.offset
