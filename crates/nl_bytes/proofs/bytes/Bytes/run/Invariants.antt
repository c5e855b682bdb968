use Rattle.std.proofs.Common.{ℕ, ◌-◌, List, ◌++◌, ◌≡◌, ◌≤◌, length}
use Rattle.nl_bytes.specs.Bytes.{Uses}
use Rattle.nl_bytes.specs.Classes.{AreIn}
use Rattle.nl_bytes.proofs.bytes.Bytes.run.Given as goal

abbrev pub invariant-loop-next : goal.invariant-loop-next
invariant-loop-next g l = record {
  used : List ℕ;
  uses : Uses l.fn.self l.self (g.S.Source.supply l.fn.source).left (g.S.Source.supply l.source).left used;
  each : AreIn l.class used;
  number : length used ≡ l.n;
  most : l.n ≤ l.most;
  added : l.out.items ≡ l.fn.out.items ++ used;
  count : (g.S.Source.supply l.fn.source).faults ≤ (g.S.Source.supply l.source).faults;
}

abbrev pub decreases-loop-next : goal.decreases-loop-next
decreases-loop-next g l = l.most - l.n
