use Rattle.std.proofs.Common.{ℕ, List, subst}
use Rattle.nl_output.specs.Writing.{state, ToCome}
use Rattle.vlog_writer.proofs.Literals.{literal_text}
use Rattle.vlog_writer.proofs.literal.write_literal.Goals as goal

pub returns : goal.returns
returns g c b rest s =
    let size = rw c.from.ensures at c.put_u64.ensures in
    c.write_based.ensures b rest (size b _
    (subst (λ (z : List ℕ). ToCome b (state g.O.Sink.receipt c.args.sink.now c.args.output.now) z) (literal_text c.args.literal.now rest) s))
