use Rattle.std.proofs.Common.{ℕ, arith, length-take, length-append, length-drop}
use Rattle.nl_bytes.proofs.Held.{held_front}
use Rattle.nl_bytes.proofs.bytes.Bytes.peek.Goals as goal

pub returns-then-self-clause-ahead : goal.returns-then-self-clause-ahead
returns-then-self-clause-ahead g c =
    let i = c.self.inside in
    rw (← c.self.view_is) (held_front i.buffer.items i.used i.count c.index.result.now (omega arith) (omega (arith, i.buffer.ok.0, c.self.invariant)) c.index.ensures)

pub returns-else-count-eq0-clause-ahead : goal.returns-else-count-eq0-clause-ahead
returns-else-count-eq0-clause-ahead g c =
    held_front _ 0 c.in-Ok.count c.index-in-Ok.result.now (omega arith) (omega (arith, length-take {A = ℕ}, length-append {A = ℕ}, length-drop {A = ℕ}, c.in-Ok.ensures.bound)) c.index-in-Ok.ensures
