use Rattle.std.proofs.Common.{◌≡◌, true, false}
use Rattle.nl_output.proofs.Putting.{put_whole, put_front}
use Rattle.nl_output.proofs.output.fails_to_put.Goals as goal

pub returns-in-Ok : goal.returns-in-Ok
returns-in-Ok g c = rw c.if-failed.false (put_whole (g.O.Sink.receipt c.args.sink.now) (g.O.Sink.receipt c.put_all.new.sink) c.args.bytes.now c.in-Ok.ensures.all c.put_all.ensures.cause.later (λ n h. (c.in-Ok.ensures.accepted n h).1))

pub returns-in-Err : goal.returns-in-Err
returns-in-Err g c = rw c.if-failed.false (let f = c.in-Err.ensures.front in put_front (g.O.Sink.receipt c.args.sink.now) (g.O.Sink.receipt c.put_all.new.sink) c.args.bytes.now f.0 f.1 f.2 c.put_all.ensures.cause.later c.in-Err.ensures.cause.failed (λ n h. let is : false ≡ true = (c.in-Err.ensures.accepted n h).0 in cc))
