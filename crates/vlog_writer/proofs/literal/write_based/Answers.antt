use Rattle.std.proofs.Common.{ℕ, List, subst}
use Rattle.nl_output.specs.Writing.{state, ToCome}
use Rattle.vlog_writer.proofs.Literals.{based_text}
use Rattle.vlog_writer.proofs.literal.write_based.Goals as goal

pub returns : goal.returns
returns g c b rest s =
    c.put_digits.ensures b rest (c.put_base.ensures b _ (c.put_quote.ensures b _
    (subst (λ (z : List ℕ). ToCome b (state g.O.Sink.receipt c.args.sink.now c.args.output.now) z) (based_text c.args.based.now rest) s)))
