use Rattle.std.proofs.Common.{ℕ, List, subst, refl}
use Rattle.nl_output.specs.Writing.{state, ToCome}
use Rattle.edif_writer.proofs.Escapes.{codes_next, codes_end}
use Rattle.edif_writer.proofs.string.write_codes.Goals as goal

pub loop-byte-preserved : goal.loop-byte-preserved
loop-byte-preserved g c b rest s =
    c.put_u64.ensures b _ (c.put.ensures b _
    (subst (λ (z : List ℕ). ToCome b (state g.O.Sink.receipt c.loop-byte.sink c.loop-byte.output) z)
    (codes_next c.args.bytes.now c.loop-byte.byte-index _ rest c.loop-byte-test.true refl) (c.loop-byte.invariant b rest s)))

pub returns : goal.returns
returns g c b rest s =
    subst (λ (z : List ℕ). ToCome b (state g.O.Sink.receipt c.loop-byte.sink c.loop-byte.output) z)
    (codes_end c.args.bytes.now c.loop-byte.byte-index rest c.loop-byte-test.false) (c.loop-byte.invariant b rest s)
