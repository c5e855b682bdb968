use Rattle.std.proofs.Common.{arith, ℕ, List, ◌∙◌, ap, subst, drop, take}
use Rattle.nl_output.specs.Writing.{state, ToCome}
use Rattle.vlog_writer.proofs.Strings.{run_next}
use Rattle.vlog_writer.proofs.string.write_run.Goals as goal

pub returns-clause-shorter : goal.returns-clause-shorter
returns-clause-shorter g c = omega (arith, c.put_front-rest.ensures.shorter, c.split_at.ensures.back_len, c.requires)

pub returns-clause-puts : goal.returns-clause-puts
returns-clause-puts g c b rest s =
    c.put_front-rest.ensures.puts b rest (c.put.ensures b _
    (subst (λ (z : List ℕ). ToCome b (state g.O.Sink.receipt c.args.sink.now c.args.output.now) z)
    (run_next c.args.bytes.now c.split_at.result.0.now c.split_at.result.1.now rest
    (c.split_at.ensures.front ∙ ap (λ (n : ℕ). take n c.args.bytes.now) c.plain_front.ensures.count)
    (c.split_at.ensures.back ∙ ap (λ (n : ℕ). drop n c.args.bytes.now) c.plain_front.ensures.count)) s))
