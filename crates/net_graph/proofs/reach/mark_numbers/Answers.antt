use Rattle.std.proofs.Common.{◌<◌, length, get_or, arith}
use Rattle.net_graph.proofs.WorkLaws.{mark_turn}
use Rattle.net_graph.proofs.reach.mark_numbers.Goals as goal

pub loop-number-preserved : goal.loop-number-preserved
loop-number-preserved c =
    let i = c.loop-number.number-index in
    let within : i < length c.args.numbers.now = omega arith in
    let fits : get_or c.args.numbers.now i 0 < length c.loop-number.marks.items = omega (arith, c.requires i 0 within, c.loop-number.invariant.long, c.args.marks.now.ok.0) in
    mark_turn c.args.marks.now.items c.args.waiting.now.items c.args.numbers.now i 0 within c.loop-number.marks.items c.loop-number.waiting.items c.loop-number.invariant fits c.mark.new.marks.items c.mark.new.waiting.items c.in_ok-mark.ensures.known c.in_ok-mark.ensures.unknown
