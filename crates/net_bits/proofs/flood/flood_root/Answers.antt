use Rattle.std.proofs.Common.{sym}
use Rattle.net_bits.specs.Flood.{IsNext, number}
use Rattle.net_bits.proofs.Flooding.{some_of}
use Rattle.net_bits.proofs.Numbers.{numbered-skip}
use Rattle.net_bits.proofs.flood.flood_root.Goals as goal

pub returns-then-is_some-clause-numbered : goal.returns-then-is_some-clause-numbered
returns-then-is_some-clause-numbered g c =
    let r = some_of (number c.args.numbers.now c.args.root) c.is_some.result (sym c.is_some.ensures) c.if-is_some.true in
    numbered-skip (IsNext c.args.adjacency.now.lists) c.args.numbers.now c.args.root c.args.class r.0 r.1 c.requires.numbered
